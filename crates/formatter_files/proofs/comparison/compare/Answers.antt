use Rattle.std.proofs.Common.{rules, ◌≡◌, ℕ, List, ◌++◌, length, subst, Some, Ok, Result}
use Rattle.formatter_files.specs.Comparing.{compared_account}
use Rattle.formatter_files.specs.Layouts.{WritesLayout}
use Rattle.formatter_files.specs.declared.formatter.LayoutError.{LayoutError}
use Rattle.formatter_files.specs.declared.formatter.Verdict.{Verdict}
use Rattle.formatter_files.specs.declared.formatter.Verdict.TheVariants.{LaidOut}
use Rattle.formatter_files.proofs.Compared.{whole_layout}
use Rattle.formatter_files.proofs.comparison.compare.Goals as goal

pub returns-in-Ok-LaidOut : goal.returns-in-Ok-LaidOut
returns-in-Ok-LaidOut g c same =
    let text = c.args.source.bytes.now in
    let made = c.new-layout.result in
    let after = c.write_layout.new.writer in
    let Wrote : Result Verdict LayoutError → Type 0 =
    λ r. WritesLayout (g.F.Formatter.IsLayout c.args.formatter.now text) (Some (compared_account made.text.now made.count))
    (Some (compared_account after.text.now after.count)) r in
    let said : Wrote (Ok c.in-Ok-LaidOut.field-0) = c.in-Ok-LaidOut.ensures in
    let written : Wrote (Ok LaidOut) = subst (λ (v : Verdict). Wrote (Ok v)) c.in-Ok-LaidOut.field-0-is said in
    let grew : compared_account after.text.now after.count ≡ compared_account text 0 ++ written.0 =
    subst (λ (t : List ℕ). compared_account after.text.now after.count ≡ compared_account t 0 ++ written.0) c.new-layout.ensures.text
    (subst (λ (n : ℕ). compared_account after.text.now after.count ≡ compared_account made.text.now n
    ++ written.0) c.new-layout.ensures.count written.2) in
    let whole : after.count ≡ length after.text.now = search rules in
    subst (λ (l : List ℕ). g.F.Formatter.IsLayout c.args.formatter.now text l)
    (whole_layout text after.text.now written.0 after.count grew whole) written.1
