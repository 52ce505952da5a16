use Rattle.std.proofs.Common.{[], refl, sym, append-nil}
use Rattle.std.proofs.Math.Logic.{∥∥₁_map}
use Rattle.prettyless_doc.proofs.Ledgers.{ledger_and}
use Rattle.prettyless_doc.proofs.Streaming.{streams_append}
use Rattle.prettyless_doc.proofs.formatter_sink.FormatterSinkRender.write_str_all.Goals as goal

pub invariant_of-self : goal.invariant_of-self
invariant_of-self g c =
    let sink = c.args.self.now in
    record {
      streams = ∥∥₁_map sink.streams (λ streams never. rw (c.and-self.ensures, c.as_bytes.ensures.value)
          (streams_append g.W.Write.write_str_gives sink.start.now.value sink.formatter.now c.write_str.new.self sink.given.bytes
          c.args.s.now (streams never) (λ flush. c.in-Ok.ensures.styled flush refl)));
    }

pub returns-in-Ok-clause-ok : goal.returns-in-Ok-clause-ok
returns-in-Ok-clause-ok g c = λ known.
    let sink = c.args.self.now in
    (refl, (rw (c.and-self.ensures, c.as_bytes.ensures.value) (ledger_and _ sink.start.now.value sink.given.bytes c.args.s.now), refl))

pub returns-in-Err-clause-err : goal.returns-in-Err-clause-err
returns-in-Err-clause-err g c = λ known.
    let sink = c.args.self.now in
    let piece = c.args.s.now in (
      refl,
      (
        (
          piece,
          [],
          sym (append-nil piece),
          rw (c.and-self.ensures, c.as_bytes.ensures.value) (ledger_and _ sink.start.now.value sink.given.bytes piece),
        ),
        c.saturating_add-self.ensures,
      ),
    )
