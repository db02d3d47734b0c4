-- When two rows of terms are equal.
use Rattle.std.specs.Prelude.{◌≡◌, Decides, refl}
use Rattle.std.proofs.Common.{sym, ap, ◌∙◌, rules}
use Rattle.numbering.specs.Rows.{Alike, Equivalence}
use Rattle.validator.specs.contracts.term_row.TermRowPartialEq.TheImpl as eq
use Rattle.validator.specs.declared.term_row.TermRow.{TermRow}
use Rattle.validator.specs.TermRows.{mixed, ordered, row_equals, row_hash}

-- the test of rows tells whether they are one
same_rows : (x y : TermRow) → Decides ((eq.ghosts).eq x y) (x ≡ y)
same_rows x y = search rules

-- two rows are equal exactly where they are one in order
pub equal_decides : (x y : TermRow) → Decides (row_equals x y) (ordered x ≡ ordered y)
equal_decides x y = same_rows (ordered x) (ordered y)

pub equivalence : Equivalence row_equals
equivalence = record {
  reflexive = λ x. (equal_decides x x).1 refl;
  symmetric = λ x y h. (equal_decides y x).1 (sym ((equal_decides x y).0 h));
  transitive = λ x y z h k. (equal_decides x z).1 ((equal_decides x y).0 h ∙ (equal_decides y z).0 k);
}

-- equal rows hash alike
pub alike : Alike row_equals row_hash
alike x y h = ap mixed ((equal_decides x y).0 h)
