use Rattle.std.proofs.Common.{codes, sym, ap, arith}
use Rattle.std.proofs.lemmas.Slice.Eq.{text_from_reads}
use Rattle.form.specs.Reading.{kind}
use Rattle.sheet.proofs.fields.kind_in.Goals as goal

pub returns-in-routes : goal.returns-in-routes
returns-in-routes c = sym (ap kind (text_from_reads c.args.field.now (codes "routes") (omega arith) (omega arith, (omega arith, (omega arith, (omega arith, (omega arith, (omega arith, tt))))))))

pub returns-in-lots : goal.returns-in-lots
returns-in-lots c = sym (ap kind (text_from_reads c.args.field.now (codes "lots") (omega arith) (omega arith, (omega arith, (omega arith, (omega arith, tt))))))

pub returns-in-words : goal.returns-in-words
returns-in-words c = sym (ap kind (text_from_reads c.args.field.now (codes "words") (omega arith) (omega arith, (omega arith, (omega arith, (omega arith, (omega arith, tt)))))))
