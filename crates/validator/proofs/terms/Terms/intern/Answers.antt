use Rattle.validator.proofs.Interning.{interned}
use Rattle.validator.proofs.terms.Terms.intern.Goals as goal

pub returns-clause-interned : goal.returns-clause-interned
returns-clause-interned c commutes t tidy says =
    interned commutes _ _ t tidy says _ _ _ _ (rw c.self.view_is at c.number.ensures.answer) c.unwrap.ensures (rw c.self.view_is at c.number.ensures.used)
