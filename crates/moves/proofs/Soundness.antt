-- What passes runs alike.
use Rattle.std.proofs.Common.{◌≡◌, ℕ, Bool, true, false, cond, List, [], ◌∷◌, Some, None, Option, sym, refl, ap, ◌∙◌, subst, true≢false, arith}
use mathlib.Core.Bool.{false≢true}
use Rattle.std.specs.Cmp.{both_ways}
use Rattle.domain.specs.Meaning.{Meaning, Lawful}
use Rattle.domain.specs.Ranges.{same_number}
use Rattle.region.specs.Numbers.{LabelNumber}
use Rattle.region.specs.Machine.{Ended, run}
use Rattle.validator.specs.Terms.{Term, same}
use Rattle.validator.specs.Walks.{Basis, basis, Stop, walk}
use Rattle.moves.specs.Theorems.{Alike, both_trap, both_reach, Sound}
use Rattle.moves.proofs.Values.{first, settled, value, dirty, alike_test, within_dirty}
use Rattle.moves.proofs.Simulation.{taken, Arrives, Stops, Ends, run_ends}
use Rattle.moves.proofs.Found.{Conditions, Match, MatchAll, passed}

same_branch : {P P' Q Q' R : Type 0} (a b : Bool) → a ≡ b → cond a P P' → cond b Q Q' → (P → Q → R) → (P' → Q' → R) → R
same_branch true true e p q f g = f p q
same_branch true false e p q f g = absurd (true≢false e)
same_branch false true e p q f g = absurd (false≢true e)
same_branch false false e p q f g = g p q

module _ {W : Type 0} (m : Meaning W) (𝓛 : Lawful m) (live : LabelNumber → ℕ → Bool) (σ : List W) where
  abbrev β : Basis
  β = basis m live

  values_alike : (t u : Term) → same m.commutes t u ≡ true → value m σ t ≡ value m σ u
  values_alike t u h = ap (settled m) (alike_test m σ 𝓛 t u h)

  taken_alike : (b c : Option Term) → Conditions β b c → taken m live σ b ≡ taken m live σ c
  taken_alike None None h = refl
  taken_alike None (Some c) h = absurd h
  taken_alike (Some b) None h = absurd h
  taken_alike (Some b) (Some c) h = ap (λ v. m.truth (first m v)) (values_alike b c h)

  stops_alike : (x y : Stop) → Match β x y → (z z' : Ended W) → Stops m live σ x z → Stops m live σ y z' → Alike m live z z'
  stops_alike x y 𝓜 z z' p q = go (dirty m σ x.symbols.traps) p (subst (λ b. Arrives m live σ b y z') (sym traps) q)
    where
      traps : dirty m σ x.symbols.traps ≡ dirty m σ y.symbols.traps
      traps = both_ways _ _ (within_dirty m σ 𝓛 x.symbols.traps y.symbols.traps 𝓜.forth) (within_dirty m σ 𝓛 y.symbols.traps x.symbols.traps 𝓜.back)

      go : (b : Bool) → Arrives m live σ b x z → Arrives m live σ b y z' → Alike m live z z'
      go true f g = rw (f, g) (both_trap z.state z'.state)
      go false f g =
          rw (f.0, g.0, ← same_number x.label y.label 𝓜.label)
          (both_reach x.label z.state z'.state (record {
            registers = λ i h l. sym (f.1.registers i h) ∙ ap (first m) (values_alike (x.symbols.register i) (y.symbols.register i) (𝓜.registers i h l)) ∙ g.1.registers i h;
            banks = λ k h. sym (f.1.banks k h) ∙ values_alike (x.symbols.bank k) (y.symbols.bank k) (𝓜.banks k h) ∙ g.1.banks k h;
          }))

  ends_alike : (xs ys : List Stop) → MatchAll β xs ys → (z z' : Ended W) → Ends m live σ xs z → Ends m live σ ys z' → Alike m live z z'
  ends_alike [] ys h z z' p q = absurd p
  ends_alike (x ∷ xs) [] h z z' p q = absurd q
  ends_alike (x ∷ xs) (y ∷ ys) h z z' p q =
      same_branch (taken m live σ x.condition) (taken m live σ y.condition) (taken_alike x.condition y.condition h.0.condition) p q
      (stops_alike x y h.0 z z') (ends_alike xs ys h.1 z z')

pub sound : {W : Type 0} (m : Meaning W) → Lawful m → Sound m
sound m 𝓛 live src sch h e le σ len =
    ends_alike m 𝓛 live σ (walk (basis m live) src e) (walk (basis m live) sch e) ((passed (basis m live) src sch h).1 e (omega arith))
    (run m src e σ) (run m sch e σ) (run_ends m live σ 𝓛 src e len) (run_ends m live σ 𝓛 sch e len)
