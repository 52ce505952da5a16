use Rattle.std.proofs.Common.{◌++◌}
use Rattle.json_formatter.proofs.Layouts.{laid_formatted, lays_bounded, written}
use Rattle.json_formatter.proofs.layout.format.Goals as goal

pub returns : goal.returns
returns g c =
    let contents = g.W.Write.contents in
    let laid = c.new-lexemes.result in
    let end = c.line_end.result.now in
    let is = laid_formatted c.args.style c.args.text.now laid end c.in_ok-check_json.ensures.ok
    (record {
      spelling = c.of-spelling.result;
      spells = c.of-spelling.ensures;
      lays = lays_bounded c.args.style c.args.text.now c.of-spelling.result c.bounded.ensures c.new-lexemes.ensures;
      ends = c.line_end.ensures;
    }) in
    written c.args.style c.args.text.now (laid ++ end) (contents c.args.writer.now) (contents c.write_layout.new.writer)
    c.write_layout.result is c.write_layout.ensures.ok c.write_layout.ensures.beginning c.write_layout.ensures.err
