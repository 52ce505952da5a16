use Rattle.std.proofs.Common.{◌≡◌, ◌++◌, [], List, ℕ, rules, subst, sym}
use Rattle.std.proofs.lemmas.Result.{IfErr-weaker}
use Rattle.prettyless_program.specs.Faults.{Stops}
use Rattle.prettyless_program.specs.Made.{instruction_of, items_of_entries}
use Rattle.prettyless_program.specs.Programs.{CodeItem, written}
use Rattle.prettyless_program.specs.declared.fault.ProgramFault.{ProgramFault}
use Rattle.prettyless_program.proofs.Reaching.{refused}
use Rattle.prettyless_program.proofs.decoding.decode.Goals as goal

pub returns-in_err-instruction-clause-err : goal.returns-in_err-instruction-clause-err
returns-in_err-instruction-clause-err g c =
    let rest = c.loop-entries.reader.rest.now in
    let items = items_of_entries g.D.Doc.DocPtr.tree c.loop-entries.entries.items in
    IfErr-weaker c.from_residual.result (λ (fault : ProgramFault). (xs : List CodeItem) → Stops fault rest xs) _
    (λ fault p. refused fault c.args.program.now rest items c.loop-entries.invariant (p items)) (search rules)

pub returns-in_err-follow-clause-err : goal.returns-in_err-follow-clause-err
returns-in_err-follow-clause-err g c =
    let rest = c.loop-entries.reader.rest.now in
    let after = c.next.new.self.rest.now in
    let items = items_of_entries g.D.Doc.DocPtr.tree c.loop-entries.entries.items in
    let i = instruction_of c.in-Some.instruction in
    let e : rest ≡ written i ++ after = search rules in
    IfErr-weaker c.from_residual-in_err-follow.result (λ (fault : ProgramFault). (r : List ℕ) → Stops fault (written i ++ r) items) _
    (λ fault p. refused fault c.args.program.now rest items c.loop-entries.invariant
    (subst (λ (r : List ℕ). Stops fault r items) (sym e) (p after))) (search rules)

pub returns-clause-err : goal.returns-clause-err
returns-clause-err g c =
    let rest = c.loop-entries.reader.rest.now in
    let items = items_of_entries g.D.Doc.DocPtr.tree c.loop-entries.entries.items in
    let e : rest ≡ [] = search rules in
    IfErr-weaker c.whole.result (λ (fault : ProgramFault). Stops fault [] items) _
    (λ fault p. refused fault c.args.program.now rest items c.loop-entries.invariant
    (subst (λ (r : List ℕ). Stops fault r items) (sym e) p)) c.whole.ensures.err
