-- Walks that no comparison tells apart, and what moves do to the walks of a line.
use Rattle.std.proofs.Common.{◌≡◌, ℕ, zero, suc, Bool, true, false, not, List, [], ◌∷◌, ◌++◌, map, Some, None, sym, refl, ap, ◌∙◌, append-nil}
use mathlib.Core.Bool.{false≢true}
use Rattle.std.proofs.lemmas.Bool.{not-false}
use Rattle.region.specs.Numbers.{Register, LabelNumber}
use Rattle.region.specs.declared.row.Action.{Action}
use Rattle.region.specs.Lines.{Place, act, exit, join, Line, joins}
use Rattle.validator.specs.Terms.{Term}
use Rattle.validator.specs.Walks.{Basis, Symbols, Stop, at_entry, writes, follow, follow_all, walk_places, walk}
use Rattle.moves.specs.Moves.{Spot, main_line, exit_piece, join_piece, standing, Move, swap, sink, unsink, lift, rise, unrise, turn, line}
use Rattle.validator.proofs.Same.{same_sym, same_trans}
use Rattle.moves.proofs.States.{unless, Alike, Close, Near, near_refl, close_sym, close_trans, follow_near, follow_all_close, follow_append}
use Rattle.moves.proofs.States.{Interchange, unchanged, inside, swapped, turned, lifted, unwritten}

module _ (β : Basis) where
  -- alike where a label's live mask looks
  abbrev pub Seen : LabelNumber → Symbols → Symbols → Type 0
  Seen l s s' = Close β (λ i. not (β.live l i)) s s'

  pub data Alongside : List Stop → List Stop → Type 0 where
    at_end : {l : LabelNumber} {s s' : Symbols} → Seen l s s'
        → Alongside (record { condition = None; label = l; symbols = s } ∷ []) (record { condition = None; label = l; symbols = s' } ∷ [])
    at_exit : {t u : Term} {l : LabelNumber} {s s' : Symbols} {xs ys : List Stop} → Alike β t u → Seen l s s' → Alongside xs ys
        → Alongside (record { condition = Some t; label = l; symbols = s } ∷ xs) (record { condition = Some u; label = l; symbols = s' } ∷ ys)

  along_sym : {xs ys : List Stop} → Alongside xs ys → Alongside ys xs
  along_sym (at_end c) = at_end (close_sym β c)
  along_sym (at_exit e c rest) = at_exit (same_sym _ e) (close_sym β c) (along_sym rest)

  along_trans : {xs ys zs : List Stop} → Alongside xs ys → Alongside ys zs → Alongside xs zs
  along_trans (at_end c) (at_end c') = at_end (close_trans β c c')
  along_trans (at_exit e c rest) (at_exit e' c' rest') = at_exit (same_trans _ e e') (close_trans β c c') (along_trans rest rest')

  -- registers that are off are dead at the label
  abbrev Dead : LabelNumber → (ℕ → Bool) → Type 0
  Dead l off = (i : ℕ) → off i ≡ true → β.live l i ≡ false

  none_dead : (l : LabelNumber) → Dead l (λ _. false)
  none_dead l i o = absurd (false≢true o)

  seen : (off : ℕ → Bool) (l : LabelNumber) {s s' : Symbols} → Dead l off → Close β off s s' → Seen l s s'
  seen off l dead c = record {
    registers = λ i o. c.registers i (unless (off i) (β.live l i) (dead i) (not-false _ o));
    banks = c.banks;
    traps = c.traps;
  }

  near_seen : (l : LabelNumber) {s s' : Symbols} → Near β s s' → Seen l s s'
  near_seen l c = seen (λ _. false) l (none_dead l) c

  -- two lines whose walks go alongside, from the first place and from each join
  pub record Even (x y : Line) : Type 0 where
    pub entries : joins x.places ≡ joins y.places
    pub top : (s s' : Symbols) → Near β s s' → Alongside (walk_places β x.end x.places s) (walk_places β y.end y.places s')
    pub below : (j : ℕ) → Alongside (walk β x (suc j)) (walk β y (suc j))

  even_sym : {x y : Line} → Even x y → Even y x
  even_sym h = record { entries = sym h.entries; top = λ s s' c. along_sym (h.top s' s (close_sym β c)); below = λ j. along_sym (h.below j) }

  pub even_trans : {x y z : Line} → Even x y → Even y z → Even x z
  even_trans h k = record {
    entries = h.entries ∙ k.entries;
    top = λ s s' c. along_trans (h.top s s (near_refl β s)) (k.top s s' c);
    below = λ j. along_trans (h.below j) (k.below j);
  }

  module _ (end : LabelNumber) where
    abbrev Evenly : List Place → List Place → Type 0
    Evenly x y = Even (line end x) (line end y)

    even_exit : (t : Register) (l : LabelNumber) (p q : List Action) {x y : List Place} → Interchange β p q → Evenly x y → Evenly (exit t l p ∷ x) (exit t l q ∷ y)
    even_exit t l p q e h = record {
      entries = h.entries;
      top = λ s s' c. at_exit (c.registers t.index refl) (near_seen l (e s s' c)) (h.top s s' c);
      below = h.below;
    }

    even_join : (p q : List Action) {x y : List Place} → Interchange β p q → Evenly x y → Evenly (join p ∷ x) (join q ∷ y)
    even_join p q e h = record {
      entries = ap suc h.entries;
      top = h.top;
      below = elim [ zero ↦ h.top _ _ (e _ _ (near_refl β at_entry)) | suc j ↦ h.below j ];
    }

    pub under : (above : List Place) {x y : List Place} → Evenly x y → Evenly (above ++ x) (above ++ y)
    under [] h = h
    under (act a ∷ above) h =
        let k = under above h in record { entries = k.entries; top = λ s s' c. k.top _ _ (follow_near β a c); below = k.below }
    under (exit t l p ∷ above) h = even_exit t l p p (unchanged β p) (under above h)
    under (join p ∷ above) h = even_join p p (unchanged β p) (under above h)

    pub even_refl : (x : List Place) → Evenly x x
    even_refl x =
        rw (← append-nil x)
        (under x (record { entries = refl; top = λ s s' c. at_end (near_seen end c); below = λ j. at_end (near_seen end (near_refl β at_entry)) }))

    -- other actions at one spot
    even_standing : (at : Spot) (p q : List Action) (rest : List Place) → Interchange β p q → Evenly (map act p ++ rest) (map act q ++ rest)
        → Evenly (standing at p ++ rest) (standing at q ++ rest)
    even_standing main_line p q rest e h = h
    even_standing (exit_piece t l above below) p q rest e h =
        even_exit t l (above ++ (p ++ below)) (above ++ (q ++ below)) (inside β above below p q e) (even_refl rest)
    even_standing (join_piece above below) p q rest e h =
        even_join (above ++ (p ++ below)) (above ++ (q ++ below)) (inside β above below p q e) (even_refl rest)

    -- an action below an exit and above it
    past_exit : (off : ℕ → Bool) (a : Action) (t : Register) (l : LabelNumber) (p q : List Action) (rest : List Place) → writes a t.index ≡ false → Dead l off
        → ((s s' : Symbols) → Near β s s' → Close β off (follow_all β p s) (follow_all β q (follow β a s'))) → Evenly (exit t l p ∷ act a ∷ rest) (act a ∷ exit t l q ∷ rest)
    past_exit off a t l p q rest w dead e = record {
      entries = refl;
      top = λ s s' c. at_exit (unwritten β a t.index c w) (seen off l dead (e s s' c)) ((even_refl rest).top _ _ (follow_near β a c));
      below = (even_refl rest).below;
    }

    past_exit_copied : (a : Action) (t : Register) (l : LabelNumber) (p : List Action) (rest : List Place) → writes a t.index ≡ false
        → Evenly (exit t l (a ∷ p) ∷ act a ∷ rest) (act a ∷ exit t l p ∷ rest)
    past_exit_copied a t l p rest w = past_exit (λ _. false) a t l (a ∷ p) p rest w (none_dead l) (unchanged β (a ∷ p))

    past_join : (a : Action) (p : List Action) (rest : List Place) → Evenly (join p ∷ act a ∷ rest) (act a ∷ join (p ++ a ∷ []) ∷ rest)
    past_join a p rest = record {
      entries = refl;
      top = λ s s' c. (even_refl rest).top _ _ (follow_near β a c);
      below = elim [ zero ↦ rw (follow_append β p (a ∷ []) at_entry) ((even_refl rest).top _ _ (near_refl β _)) | suc j ↦ (even_refl rest).below j ];
    }

    pub moved_even : (rest : List Place) {x y : List Place} → Move β x y → Evenly (x ++ rest) (y ++ rest)
    moved_even rest (swap at a b h) =
        even_standing at (a ∷ b ∷ []) (b ∷ a ∷ []) rest (swapped β a b h)
        (record { entries = refl; top = λ s s' c. (even_refl rest).top _ _ (swapped β a b h s s' c); below = (even_refl rest).below })
    moved_even rest (sink a t l p w) = even_sym (past_exit_copied a t l p rest w)
    moved_even rest (unsink a t l p w) = past_exit_copied a t l p rest w
    moved_even rest (lift a t l p h) =
        past_exit (writes a) a t l p p rest h.untested h.dead (λ s s' c. follow_all_close β (writes a) p h.unread (lifted β a h.trapless h.storeless c))
    moved_even rest (rise a p) = past_join a p rest
    moved_even rest (unrise a p) = even_sym (past_join a p rest)
    moved_even rest (turn at o d a b h) =
        even_standing at _ _ rest (turned β o d a b h)
        (record { entries = refl; top = λ s s' c. (even_refl rest).top _ _ (turned β o d a b h s s' c); below = (even_refl rest).below })
