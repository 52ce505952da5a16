use Rattle.std.proofs.Common.{◌≡◌, ◌++◌, List, ℕ, length}
use denote.Text.{Utf8}
use denote.Shadow.{shadow}
use Rattle.prettyless_sink.specs.Sink.{Accepts}
use Rattle.prettyless_sink.proofs.render.Render.write_str_all.Given as goal

abbrev pub invariant-loop-rest : goal.invariant-loop-rest
invariant-loop-rest g l = record {
  is_text : shadow (Utf8 l.rest);
  same_lender : g.Self.Render.lender l.self ≡ g.Self.Render.lender l.fn.self;
  done : List ℕ;
  split : l.fn.s ≡ done ++ l.rest;
  accepted : Accepts (g.Self.Render.bytes l.fn.self) (g.Self.Render.bytes l.self) done (g.Self.Render.failures l.fn.self)
      (g.Self.Render.failures l.self);
}

abbrev pub decreases-loop-rest : goal.decreases-loop-rest
decreases-loop-rest g l = length l.rest
