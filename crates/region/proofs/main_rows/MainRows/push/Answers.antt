use Rattle.std.proofs.Common.{sym, ap, ◌∙◌, arith}
use Rattle.region.specs.Rows.{exits_in, joins_in}
use Rattle.region.proofs.Filling.{exits_more, joins_more, too_many_exits, too_many_joins}
use Rattle.region.proofs.main_rows.MainRows.push.Goals as goal
use Rattle.region.proofs.main_rows.MainRows.push.Goals.{then-exits-gt-EXITS-via-then-exits-gt-EXITS, then-exits-gt-EXITS-via-else-exits-gt-EXITS+then-joins-gt-JOINS}

pub returns-then-exits-gt-EXITS-clause-answer : goal.returns-then-exits-gt-EXITS-clause-answer
returns-then-exits-gt-EXITS-clause-answer c =
    elim c.then-exits-gt-EXITS.branch [
      | then-exits-gt-EXITS-via-then-exits-gt-EXITS w ↦ too_many_exits c.args.self.now c.args.row _ _ c.exits_of.ensures c.joins_of.ensures w.if-exits-gt-EXITS.true
      | then-exits-gt-EXITS-via-else-exits-gt-EXITS+then-joins-gt-JOINS w ↦ too_many_joins c.args.self.now c.args.row _ _ c.exits_of.ensures c.joins_of.ensures w.if-joins-gt-JOINS.true
    ]

pub invariant_of-self-2 : goal.invariant_of-self-2
invariant_of-self-2 c =
    let m = c.args.self.now in record {
      few_exits = omega (arith, c.if-exits-gt-EXITS.false);
      few_joins = omega (arith, c.if-joins-gt-JOINS.false);
      exits_counted = exits_more m c.args.row _ _ c.exits_of.ensures c.joins_of.ensures ∙ ap exits_in (sym (c.in_ok-push.ensures.after));
      joins_counted = joins_more m c.args.row _ _ c.exits_of.ensures c.joins_of.ensures ∙ ap joins_in (sym (c.in_ok-push.ensures.after));
    }
