use Rattle.std.specs.String.{string_bytes}
use Rattle.example_formatters.specs.View.{expression_of}
use Rattle.example_formatters.proofs.Back.{wrote}
use Rattle.example_formatters.proofs.write.write_in.Goals as goal

pub returns : goal.returns
returns c =
    let rendered = rw (c.doc.ensures, c.in_ok-document.ensures.tree) at c.in_ok-render_fmt.ensures in
    wrote c.args.width (expression_of c.args.term.now) (string_bytes c.args.out.now) (string_bytes c.render_fmt.new.out)
    c.in_ok-document.ensures.numbers rendered.content rendered.bytes
