use Rattle.prettyless_sink.proofs.text_writer.RefMutTextWriter.write_text.Goals as goal

pub returns-clause-ok : goal.returns-clause-ok
returns-clause-ok g c = c.write_text.ensures.ok

pub returns-clause-err : goal.returns-clause-err
returns-clause-err g c = c.write_text.ensures.err
