use Rattle.std.proofs.Common.{rules, ◌≡◌, true}
use Rattle.formatter_files.proofs.Compared.{account_grows, differs, goes_on}
use Rattle.formatter_files.proofs.comparing.ComparingWrite.write.Goals as goal

pub returns-then-not-starts_with-clause-other : goal.returns-then-not-starts_with-clause-other
returns-then-not-starts_with-clause-other c =
    let other : c.starts_with.result ≡ true → ⊥ = λ h. cc in
    differs c.args.self.now.text.now c.args.buf.now c.args.self.now.count c.starts_with.result c.starts_with.ensures.value other

pub returns-clause-bytes : goal.returns-clause-bytes
returns-clause-bytes c =
    let h : c.starts_with.result ≡ true = search rules in
    account_grows c.args.self.now.text.now c.args.buf.now c.args.self.now.count c.starts_with.result c.starts_with.ensures.value
    c.args.self.now.within h

pub returns-clause-next : goal.returns-clause-next
returns-clause-next c =
    let h : c.starts_with.result ≡ true = search rules in
    goes_on c.args.self.now.text.now c.args.buf.now c.args.self.now.count c.starts_with.result c.starts_with.ensures.value
    c.args.self.now.within h
