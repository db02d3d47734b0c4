use Rattle.std.proofs.Common.{◌≡◌, ◌≤ℤ◌, ℤ, pos, negsuc, nat_abs, refl, ap, sym, ◌∙◌, rules, w32, to_z, of_z}
use Rattle.domain.specs.Slots.{slot_at}
use Rattle.domain.specs.Trapping.{addressed}
use Rattle.domain.proofs.trapping.addressed_cell.Goals as goal

not_negative : (z : ℤ) → pos 0 ≤ℤ z → addressed z ≡ slot_at (nat_abs z)
not_negative (pos n) h = refl
not_negative (negsuc n) h = absurd (search rules)

pub returns : goal.returns
returns c =
    let v = c.args.value in
    let same : to_z w32 (of_z w32 v) ≡ v = search rules in
    let i : c.in_ok-index.index ≡ nat_abs v = search rules in
    let h : pos 0 ≤ℤ v = search rules in
    c.new.ensures ∙ ap slot_at i ∙ sym (not_negative v h)
