use Rattle.std.proofs.Common.{◌+◌, sym}
use Rattle.std.proofs.lemmas.List.{take_rest}
use Rattle.region_text.proofs.Splits.{cut_ended, cut_last}
use Rattle.region_text.proofs.texts.first_line.Goals as goal

pub returns-in-Some-clause-line : goal.returns-in-Some-clause-line
returns-in-Some-clause-line c = rw (take_rest c.args.text.now (c.in-Some.end + 1)) (cut_ended c.args.text.now c.in-Some.end (sym c.in-Some.ensures))

pub returns-in-None-clause-line : goal.returns-in-None-clause-line
returns-in-None-clause-line c = cut_last c.args.text.now c.if-is_empty.ensures (sym c.in-None.ensures)
