-- What calls answer, told by what the regions hold.
use Rattle.std.proofs.Common.{◌≡◌, ℕ, ◌+◌, ◌*◌, ◌<◌, ◌≤◌, Bool, true, false, cond, eqb, ltb, leb, List, ◌++◌, length, take, drop, Some, None, Ok, Err, Option, Result, sym, refl, ap, ◌∙◌, subst, ap₂, drop-drop, drop_at}
use Rattle.std.proofs.lemmas.List.{drop-take}
use Rattle.std.proofs.lemmas.Bool.{eq-eqb, le-leb, le-ltb, lt-ltb, ltb-true, ltb-false}
use Rattle.std.specs.Option.{option_map}
use Rattle.domain.specs.Meaning.{Meaning}
use Rattle.region.specs.declared.outcome.Misfit.TheVariants as misfit
use Rattle.region.specs.declared.label.LabelRow.{LabelRow}
use Rattle.region.specs.declared.row.Row.{Row}
use Rattle.region.specs.declared.side.Side.{Side}
use Rattle.region.specs.declared.side.Side.TheVariants as side
use Rattle.region.specs.Kept.{Kept}
use Rattle.region.specs.Labels.{unused}
use Rattle.region.specs.Lines.{Line, assembled}
use Rattle.region.specs.Listing.{source_kept, schedule_kept}
use Rattle.region.specs.Machine.{Ended, run, run_in}
use Rattle.region.specs.Rows.{joins_in, laid}
use Rattle.region_text.specs.Drafts.{LaidSchedule, laid_source, laid_schedule}
use Rattle.region_text.specs.Schedules.{Schedule, read_schedule}
use Rattle.region_text.specs.Sources.{Source, read_source}
use Rattle.region_text.proofs.Fits.{SourceFits, ScheduleFits}
use Rattle.validator.specs.declared.unfit.Unfit.TheVariants as unfit
use Rattle.validator.specs.declared.verdict.Verdict.{Verdict}
use Rattle.validator.specs.Compared.{compared as compared_in}
use Rattle.validator.specs.Comparison.{comparison}
use Rattle.validator.specs.Live.{live_in}
use Rattle.validator.specs.Walks.{basis}
use Rattle.shelf.specs.declared.refusal.Number.TheVariants as number
use Rattle.shelf.specs.declared.refusal.Refusal.{Refusal}
use Rattle.shelf.specs.Calls.{bind, needed, from_run, from_text, from_unfit, region_of, line_of, source_answer, schedule_answer, check_answer, hand_out_answer, run_answer, is_passed, passing}
use Rattle.shelf.specs.Refusals.{without_place}
use Rattle.shelf.specs.Store.{KeptRegion, part, rows_of_region, labels_of_region}
use Rattle.replay.specs.Held.{Held, verdict_of}
use Rattle.replay.specs.Law.{handed}
use Rattle.replay.specs.Said.{source_line, schedule_line}
use Rattle.replay.specs.Stored.{source_part, schedule_part, label_part, rows_part, record_of, stored}
use Rattle.replay.proofs.ReadBack.{source_back, schedule_back, live_back}
use Rattle.replay.proofs.Regions.{SourceInPlace, ScheduleInPlace, Fits, length_source_part, length_label_part, length_rows_part, rows_at, labels_at, region_known}

bind_cond : {X Y : Type 0} (b : Bool) (x : X) (e : Refusal) (f : X → Result Y Refusal) → bind (cond b (Ok x) (Err e)) f ≡ cond b (f x) (Err e)
bind_cond true x e f = refl
bind_cond false x e f = refl

abbrev unless_passed : Bool → Result (Unit {0}) Refusal
unless_passed p = cond p (Ok tt) (Err (without_place number.NotPassed))

-- by the source that is held: what a schedule's text says
abbrev pub scheduled_by : Option Source → List ℕ → Result LaidSchedule Refusal
scheduled_by None t = Err (without_place number.Source)
scheduled_by (Some s) t = from_text (laid_schedule (read_schedule (laid 9 unused s.labels) t))

module _ {W : Type 0} (m : Meaning W) where
  -- how the two lines that are held compare
  abbrev pub judged_by : Option Source → Option Schedule → Result Verdict Refusal
  judged_by None x = Err (without_place number.Source)
  judged_by (Some s) None = Err (without_place number.Schedule)
  judged_by (Some s) (Some x) = Ok (verdict_of m s x)

  module _ (s : Source) (x : Schedule) where
    abbrev both : Held
    both = record { source = Some s; schedule = Some x; verdict = None }

    abbrev labels : List LabelRow
    labels = laid 9 unused s.labels

    -- how the lines that lie in the rows of both compare
    abbrev verdict_there : Verdict
    verdict_there =
        comparison (basis m (live_in labels)) (assembled side.Source (rows_part both) (source_kept s.rows s.end))
        (assembled side.Schedule (rows_part both) (schedule_kept x.rows x.exits x.entries x.end))

    compares : (room : ℕ) → 512 ≤ room → SourceFits s → ScheduleFits x
        → compared_in m (rows_part both) labels (source_kept s.rows s.end) (schedule_kept x.rows x.exits x.entries x.end) room ≡ Ok (verdict_of m s x)
    compares room big f g =
        ap (λ b. cond b (cond (eqb (length labels) 9) (cond (leb 512 room) (Ok verdict_there) (Err unfit.Terms)) (Err unfit.Labels)) (Err unfit.Rows))
        (eq-eqb (length (rows_part both)) 384 (length_rows_part both (record { source = f; schedule = g })))
        ∙ ap (λ b. cond b (cond (leb 512 room) (Ok verdict_there) (Err unfit.Terms)) (Err unfit.Labels)) (eq-eqb (length labels) 9 (length_label_part (Some s) f))
        ∙ ap (λ b. cond b (Ok verdict_there) (Err unfit.Terms)) (le-leb 512 room big)
        ∙ (λ i. Ok (comparison (basis m (live_back s.labels i)) (source_back s (schedule_part (Some x)) i) (schedule_back (source_part (Some s)) x (length_source_part (Some s) f) g i)))

  module _ (n : ℕ) (few : n ≤ 16) (H : ℕ → Held) (fits : (r : ℕ) → Fits (H r)) where
    -- a call on a region that the shelf has goes on with its record
    via_region : {Y : Type 0} (f : KeptRegion → Result Y Refusal) (r : ℕ) (b : Bool) → ltb r n ≡ b
        → bind (region_of (stored n H) r) f ≡ cond b (f (record_of (H r))) (Err (without_place number.Region))
    via_region f r b e = ap (λ k. bind k f) (region_known n H fits few r b e) ∙ bind_cond b (record_of (H r)) (without_place number.Region) f

    pub source_by : (r : ℕ) (t : List ℕ) (b : Bool) → ltb r n ≡ b
        → source_answer (stored n H) r t ≡ cond b (from_text (laid_source (read_source t))) (Err (without_place number.Region))
    source_by r t b e = via_region (λ _. from_text (laid_source (read_source t))) r b e

    pub schedule_by : (r : ℕ) (t : List ℕ) (b : Bool) → ltb r n ≡ b
        → schedule_answer (stored n H) r t ≡ cond b (scheduled_by (H r).source t) (Err (without_place number.Region))
    schedule_by r t b e =
        via_region (λ k. bind (line_of side.Source k) (λ _. from_text (laid_schedule (read_schedule (labels_of_region (stored n H) r) t)))) r b e ∙ there b e
      where
        go : (o : Option Source)
            → bind (needed number.Source (option_map (λ s. source_kept s.rows s.end) o)) (λ _. from_text (laid_schedule (read_schedule (label_part o) t))) ≡ scheduled_by o t
        go None = refl
        go (Some s) = refl

        there : (b : Bool) → ltb r n ≡ b
            → cond b (bind (line_of side.Source (record_of (H r))) (λ _. from_text (laid_schedule (read_schedule (labels_of_region (stored n H) r) t)))) (Err (without_place number.Region))
            ≡ cond b (scheduled_by (H r).source t) (Err (without_place number.Region))
        there true e =
            ap (λ ls. bind (line_of side.Source (record_of (H r))) (λ _. from_text (laid_schedule (read_schedule ls t)))) (labels_at n H fits r (ltb-true r n e)) ∙ go (H r).source
        there false e = refl

    module _ (r room : ℕ) where
      -- a check by the record, the rows and the labels of its region
      abbrev check_there : List Row → List LabelRow → KeptRegion → Result Verdict Refusal
      check_there rows labels k =
          bind (line_of side.Source k) (λ u. bind (line_of side.Schedule k) (λ v. from_unfit (compared_in m rows labels u v room)))

      judged : 512 ≤ room → (o : Option Source) (p : Option Schedule) (w : Option Verdict) → SourceInPlace o → ScheduleInPlace p
          → check_there (source_part o ++ schedule_part p) (label_part o) (record_of (record { source = o; schedule = p; verdict = w })) ≡ judged_by o p
      judged big None p w f g = refl
      judged big (Some s) None w f g = refl
      judged big (Some s) (Some x) w f g = ap from_unfit (compares s x room big f g)

      pub check_by : (a b : Bool) → ltb room 512 ≡ a → ltb r n ≡ b
          → check_answer m (stored n H) r room
          ≡ cond a (Err (without_place number.Sizes)) (cond b (judged_by (H r).source (H r).schedule) (Err (without_place number.Region)))
      check_by a b d e = ap (λ t. cond t (Err (without_place number.Sizes)) (bind (region_of (stored n H) r) (check_there (rows_of_region (stored n H) r) (labels_of_region (stored n H) r)))) d ∙ there a b d e
        where
          there : (a b : Bool) → ltb room 512 ≡ a → ltb r n ≡ b
              → cond a (Err (without_place number.Sizes)) (bind (region_of (stored n H) r) (check_there (rows_of_region (stored n H) r) (labels_of_region (stored n H) r)))
              ≡ cond a (Err (without_place number.Sizes)) (cond b (judged_by (H r).source (H r).schedule) (Err (without_place number.Region)))
          there true b d e = refl
          there false true d e =
              via_region (check_there (rows_of_region (stored n H) r) (labels_of_region (stored n H) r)) r true e
              ∙ ap₂ (λ rows labels. check_there rows labels (record_of (H r))) (rows_at n H fits r (ltb-true r n e)) (labels_at n H fits r (ltb-true r n e))
              ∙ judged (ltb-false room 512 d) (H r).source (H r).schedule (H r).verdict (fits r).source (fits r).schedule
          there false false d e = via_region (check_there (rows_of_region (stored n H) r) (labels_of_region (stored n H) r)) r false e

    -- the rows of a region's schedule
    schedule_rows_at : (r : ℕ) → r < n → part (384 * r + 96) 288 (stored n H).rows ≡ schedule_part (H r).schedule
    schedule_rows_at r l =
        ap (take 288) (sym (drop-drop 96 (384 * r) (stored n H).rows))
        ∙ sym (drop-take 96 288 (drop (384 * r) (stored n H).rows))
        ∙ ap (drop 96) (rows_at n H fits r l)
        ∙ drop_at (source_part (H r).source) (schedule_part (H r).schedule) 96 (length_source_part (H r).source (fits r).source)

    pub hand_out_by : (r : ℕ) (b : Bool) → ltb r n ≡ b
        → hand_out_answer (stored n H) r ≡ cond b (handed (H r).source (H r).schedule (is_passed (H r).verdict)) (Err (without_place number.Region))
    hand_out_by r b e =
        via_region (λ k. bind (line_of side.Schedule k) (λ _. bind (passing k.mark) (λ _. Ok (part (384 * r + 96) 288 (stored n H).rows)))) r b e ∙ there b e
      where
        go : (o : Option Source) (p : Option Schedule) (w : Bool)
            → bind (bind (needed number.Source (option_map (λ s. source_kept s.rows s.end) o)) (λ _. needed number.Schedule (option_map (λ x. schedule_kept x.rows x.exits x.entries x.end) p)))
            (λ _. bind (unless_passed w) (λ _. Ok (schedule_part p))) ≡ handed o p w
        go None p w = refl
        go (Some s) None w = refl
        go (Some s) (Some x) true = refl
        go (Some s) (Some x) false = refl

        there : (b : Bool) → ltb r n ≡ b
            → cond b (bind (line_of side.Schedule (record_of (H r))) (λ _. bind (passing (H r).verdict) (λ _. Ok (part (384 * r + 96) 288 (stored n H).rows)))) (Err (without_place number.Region))
            ≡ cond b (handed (H r).source (H r).schedule (is_passed (H r).verdict)) (Err (without_place number.Region))
        there true e =
            ap (λ rows. bind (line_of side.Schedule (record_of (H r))) (λ _. bind (passing (H r).verdict) (λ _. Ok rows))) (schedule_rows_at r (ltb-true r n e))
            ∙ go (H r).source (H r).schedule (is_passed (H r).verdict)
        there false e = refl

    -- RUN of a line that is held, from an entry that it has
    run_there : (side' : Side) (rows : List Row) (k : Kept) (line : Line) (e : ℕ) (σ : List W) → length rows ≡ 384 → assembled side' rows k ≡ line → e ≤ k.joins → length σ ≡ 80
        → from_run (run_in m side' rows k e σ) ≡ Ok (run m line e σ)
    run_there side' rows k line e σ wide is le long =
        ap (λ b. from_run (cond b (cond (ltb k.joins e) (Err misfit.Entry) (cond (eqb (length σ) 80) (Ok (run m (assembled side' rows k) e σ)) (Err misfit.State))) (Err misfit.Rows))) (eq-eqb (length rows) 384 wide)
        ∙ ap (λ b. from_run (cond b (Err misfit.Entry) (cond (eqb (length σ) 80) (Ok (run m (assembled side' rows k) e σ)) (Err misfit.State)))) (le-ltb k.joins e le)
        ∙ ap (λ b. from_run (cond b (Ok (run m (assembled side' rows k) e σ)) (Err misfit.State))) (eq-eqb (length σ) 80 long)
        ∙ ap (λ z. Ok (run m z e σ)) is

    module _ (r : ℕ) (l : r < n) (s : Source) (x : Schedule) (is_source : (H r).source ≡ Some s) (is_schedule : (H r).schedule ≡ Some x) (e : ℕ) (σ : List W) (long : length σ ≡ 80) where
      abbrev held_both : Held
      held_both = record { source = Some s; schedule = Some x; verdict = (H r).verdict }

      both_held : H r ≡ held_both
      both_held = λ i. record { source = is_source i; schedule = is_schedule i; verdict = (H r).verdict }

      fits_both : Fits held_both
      fits_both = subst Fits both_held (fits r)

      abbrev run_by_record : Side → List Row → KeptRegion → Result (Ended W) Refusal
      run_by_record side' rows k = bind (line_of side' k) (λ line. from_run (run_in m side' rows line e σ))

      run_at : (side' : Side) → run_answer m (stored n H) r side' e σ ≡ run_by_record side' (rows_part held_both) (record_of held_both)
      run_at side' =
          via_region (run_by_record side' (rows_of_region (stored n H) r)) r true (lt-ltb r n l)
          ∙ ap₂ (λ rows h. run_by_record side' rows (record_of h)) (rows_at n H fits r l ∙ ap rows_part both_held) both_held

      pub source_run_by : e ≤ joins_in s.rows → run_answer m (stored n H) r side.Source e σ ≡ Ok (run m (source_line s) e σ)
      source_run_by le =
          run_at side.Source
          ∙ run_there side.Source (rows_part held_both) (source_kept s.rows s.end) (source_line s) e σ (length_rows_part held_both fits_both) (source_back s (schedule_part (Some x))) le long

      pub schedule_run_by : e ≤ joins_in x.rows → run_answer m (stored n H) r side.Schedule e σ ≡ Ok (run m (schedule_line x) e σ)
      schedule_run_by le =
          run_at side.Schedule
          ∙ run_there side.Schedule (rows_part held_both) (schedule_kept x.rows x.exits x.entries x.end) (schedule_line x) e σ (length_rows_part held_both fits_both)
          (schedule_back (source_part (Some s)) x (length_source_part (Some s) fits_both.source) fits_both.schedule) le long
