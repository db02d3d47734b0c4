-- The examples: the moves that derive the schedules; the verdicts are computed.
use Rattle.std.proofs.Common.{◌≡◌, ℕ, ◌%◌, Bool, true, false, eqb, [], ◌∷◌, refl}
use mathlib.Core.Bool.{false≢true}
use Rattle.std.proofs.lemmas.Bool.{eqb-true}
use Rattle.domain.specs.declared.op.Op.TheVariants.{Add, Lt}
use Rattle.region.specs.Lines.{act, join}
use Rattle.moves.specs.Moves.{Independent, main_line, exit_piece, join_piece, swap, sink, unsink, lift, rise, unrise, turn, unmoved, moved}
use Rattle.moves.specs.Examples.{register, label, O, I, L, S, X, Swaps, Sinks, Unsinks, Lifts, Rises, Unrises, Turns, Stays, Examples}

-- a condition on the one number of which a test is true
at_one : (n : ℕ) (f : ℕ → Bool) → f n ≡ false → (i : ℕ) → eqb i n ≡ true → f i ≡ false
at_one n f h i e = rw (eqb-true i n e) h

literals : (d n e v : ℕ) → eqb (d % 16) (e % 16) ≡ false → eqb (e % 16) (d % 16) ≡ false → Independent (I d n) (I e v)
literals d n e v h h' = record {
  forth = record { registers = at_one (d % 16) (λ i. eqb i (e % 16)) h; banks = λ k f. absurd (false≢true f) };
  back = record { registers = at_one (e % 16) (λ i. eqb i (d % 16)) h'; banks = λ k f. absurd (false≢true f) };
}

swaps : Swaps
swaps = record {
  in_line = record {
    derived = moved [] [] unmoved (swap main_line (O Add 1 3 4) (S 1 5 6) (record {
      forth = record { registers = at_one 1 _ refl; banks = λ k h. absurd (false≢true h) };
      back = record { registers = λ i h. absurd (false≢true h); banks = λ k _. refl };
    }));
    passed = refl;
  };
  in_exit = record {
    derived =
        moved [] (act (I 2 7) ∷ act (I 3 8) ∷ [])
        (moved [] (act (I 3 8) ∷ [])
        (moved (act (I 2 7) ∷ []) [] unmoved (sink (I 3 8) (register 6) (label 1) [] refl))
        (sink (I 2 7) (register 6) (label 1) (I 3 8 ∷ []) refl))
        (swap (exit_piece (register 6) (label 1) [] []) (I 2 7) (I 3 8) (literals 2 7 3 8 refl refl));
    passed = refl;
  };
  in_join = record {
    derived =
        moved (act (I 1 7) ∷ act (I 3 8) ∷ []) []
        (moved (act (I 1 7) ∷ []) [] (moved [] (act (I 3 8) ∷ []) unmoved (rise (I 1 7) [])) (rise (I 3 8) (I 1 7 ∷ [])))
        (swap (join_piece [] []) (I 1 7) (I 3 8) (literals 1 7 3 8 refl refl));
    passed = refl;
  };
  read_written = refl;
  written_read = refl;
  written_written = refl;
  stored_loaded = refl;
  loaded_stored = refl;
  stored_stored = refl;
}

sinks : Sinks
sinks = record {
  sunk = record { derived = moved [] [] unmoved (sink (S 1 5 6) (register 6) (label 1) [] refl); passed = refl };
  tested = refl;
  no_copy = refl;
  copy_last = refl;
}

unsinks : Unsinks
unsinks = record {
  unsunk = record {
    derived =
        let add = O Add 1 3 4 in let turned = O Add 1 4 3 in
        moved [] []
        (moved (X (turned ∷ []) ∷ []) []
        (moved [] (act add ∷ []) (moved [] [] unmoved (sink add (register 6) (label 1) [] refl))
        (turn (exit_piece (register 6) (label 1) [] []) Add (register 1) (register 3) (register 4) refl))
        (turn main_line Add (register 1) (register 3) (register 4) refl))
        (unsink turned (register 6) (label 1) [] refl);
    passed = refl;
  };
  tested = refl;
  another = refl;
}

lifts : Lifts
lifts = record {
  operate = record {
    derived = moved [] [] unmoved (lift (O Add 1 3 4) (register 6) (label 1) [] (record
        { trapless = refl; storeless = λ k. refl; untested = refl; dead = at_one 1 _ refl; unread = λ i _. refl }));
    passed = refl;
  };
  trapless_operate = record {
    derived = moved [] [] unmoved (lift (O Lt 1 3 4) (register 6) (label 1) [] (record
        { trapless = refl; storeless = λ k. refl; untested = refl; dead = at_one 1 _ refl; unread = λ i _. refl }));
    passed = refl;
  };
  literal = record {
    derived = moved [] [] unmoved (lift (I 1 7) (register 6) (label 1) [] (record
        { trapless = refl; storeless = λ k. refl; untested = refl; dead = at_one 1 _ refl; unread = λ i _. refl }));
    passed = refl;
  };
  load = record {
    derived = moved [] [] unmoved (lift (L 1 1 5) (register 6) (label 1) [] (record
        { trapless = refl; storeless = λ k. refl; untested = refl; dead = at_one 1 _ refl; unread = λ i _. refl }));
    passed = refl;
  };
  trapping_operate = refl;
  trapping_load = refl;
  store = refl;
  tested = refl;
  live_there = refl;
  read = refl;
}

rises : Rises
rises = record {
  risen = record { derived = moved [] [] unmoved (rise (S 1 5 6) []); passed = refl };
  no_copy = refl;
  copy_first = refl;
}

unrises : Unrises
unrises = record {
  unrisen = record {
    derived =
        let add = O Add 1 3 4 in let turned = O Add 1 4 3 in
        moved [] []
        (moved [] (join (turned ∷ []) ∷ [])
        (moved (act add ∷ []) [] (moved [] [] unmoved (rise add []))
        (turn (join_piece [] []) Add (register 1) (register 3) (register 4) refl))
        (turn main_line Add (register 1) (register 3) (register 4) refl))
        (unrise turned []);
    passed = refl;
  };
  another = refl;
}

turns : Turns
turns = record {
  turned = record { derived = moved [] [] unmoved (turn main_line Add (register 1) (register 3) (register 4) refl); passed = refl };
  of_sub = refl;
  of_sub_trapping = refl;
}

stays : Stays
stays = record { exits = refl; labels = refl; fewer = refl; more = refl; joins = refl }

pub examples : Examples
examples = (swaps, sinks, unsinks, lifts, rises, unrises, turns, stays)
