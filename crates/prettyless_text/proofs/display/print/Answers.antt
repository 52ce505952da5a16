use Rattle.std.proofs.Common.{◌≡◌, ◌++◌, List, ℕ, Option, Some, None, Result, Ok, Err, IfSome, OnOk}
use Rattle.std.specs.Fmt.{WritesText}
use Rattle.std.proofs.lemmas.Fmt.{contents_after_writes}
use Rattle.prettyless_text.specs.Printed.{bytes_so_far}
use Rattle.prettyless_text.specs.declared.display.DisplayWriter.{DisplayWriter}
use Rattle.prettyless_text.proofs.display.print.Goals as goal

abbrev took : DisplayWriter → List ℕ → DisplayWriter → Type 0
took p bs q = bytes_so_far q.text ≡ bytes_so_far p.text ++ bs

-- what a value writes in pieces is at the end
added : (p q : DisplayWriter) (o : Option (List ℕ)) → WritesText took p o q → IfSome o (λ bs. took p bs q)
added p q None h = tt
added p q (Some bs) h = contents_after_writes took (λ r. bytes_so_far r.text) (λ _ _ _ e. e) p bs q h

added_on_ok : {E : Type 0} (r : Result (Unit {0}) E) (p q : DisplayWriter) (o : Option (List ℕ)) → OnOk r (WritesText took p o q)
    → OnOk r (IfSome o (λ bs. took p bs q))
added_on_ok (Ok x) p q o h = added p q o h
added_on_ok (Err e) p q o h = h

pub returns : goal.returns
returns g c =
    added_on_ok c.write.result c.args.printer.now c.write.new.self (g.V.Display.output c.args.value) c.write.ensures.writes
