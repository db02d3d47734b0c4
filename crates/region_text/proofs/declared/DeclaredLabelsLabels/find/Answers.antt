use Rattle.std.proofs.Common.{◌∙◌}
use Rattle.numbering.specs.Used.{used}
use Rattle.region_text.specs.Records.{named}
use Rattle.region_text.proofs.Lookups.{declared, found_rows}
use Rattle.region_text.proofs.declared.DeclaredLabelsLabels.find.Goals as goal

pub returns : goal.returns
returns c = c.find.ensures ∙ found_rows (declared (named c.args.label 0)) (used c.args.self.now.table)
