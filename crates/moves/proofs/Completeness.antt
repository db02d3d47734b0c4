-- What the moves derive passes.
use Rattle.std.proofs.Common.{ℕ, zero, suc, not, List, Some, None, Option, sym, refl, ap, ◌∙◌}
use Rattle.domain.specs.Meaning.{Meaning}
use Rattle.region.specs.Numbers.{LabelNumber}
use Rattle.region.specs.Lines.{Line}
use Rattle.validator.specs.Terms.{Term}
use Rattle.validator.specs.Walks.{Basis, basis, Symbols, Stop, at_entry, walk}
use Rattle.moves.specs.Moves.{Derived, unmoved, moved}
use Rattle.moves.specs.Theorems.{Complete}
use Rattle.validator.proofs.Same.{same_so_test}
use Rattle.moves.proofs.Same.{within_seen}
use Rattle.moves.proofs.Found.{Conditions, Match, MatchAll, passes}
use Rattle.moves.proofs.States.{near_refl}
use Rattle.moves.proofs.Walks.{Seen, Alongside, at_end, at_exit, Even, even_trans, even_refl, under, moved_even}

module _ (β : Basis) where
  match : (c c' : Option Term) (l : LabelNumber) (s s' : Symbols) → Conditions β c c' → Seen β l s s'
      → Match β (record { condition = c; label = l; symbols = s }) (record { condition = c'; label = l; symbols = s' })
  match c c' l s s' h near = record {
    condition = h;
    label = refl;
    registers = λ i _ on. same_so_test _ (near.registers i (ap not on));
    banks = λ k _. same_so_test _ (near.banks k);
    forth = within_seen β.commutes s.traps s'.traps (λ x h. sym (near.traps x) ∙ h);
    back = within_seen β.commutes s'.traps s.traps (λ x h. near.traps x ∙ h);
  }

  match_all : {xs ys : List Stop} → Alongside β xs ys → MatchAll β xs ys
  match_all (at_end c) = (match None None _ _ _ tt c, tt)
  match_all (at_exit e c rest) = (match (Some _) (Some _) _ _ _ (same_so_test _ e) c, match_all rest)

  derived : {source schedule : Line} → Derived β source schedule → Even β source schedule
  derived {source} unmoved = even_refl β source.end source.places
  derived (moved above below {end = end} h c) = even_trans β (derived h) (under β end above (moved_even β end below c))

  walks : {x y : Line} → Even β x y → (e : ℕ) → Alongside β (walk β x e) (walk β y e)
  walks h = elim [ zero ↦ h.top _ _ (near_refl β at_entry) | suc j ↦ h.below j ]

pub complete : {W : Type 0} (m : Meaning W) → Complete m
complete m live source schedule h =
    let k = derived (basis m live) h in
    passes (basis m live) source schedule (k.entries, λ e _. match_all (basis m live) (walks (basis m live) k e))
