-- What a store keeps of a region and where its parts lie, told by what the regions hold.
use Rattle.std.proofs.Common.{◌≡◌, ℕ, ◌+◌, ◌*◌, ◌<◌, ◌≤◌, Bool, true, false, cond, ◌&&◌, eqb, ltb, List, [], ◌∷◌, ◌++◌, length, get_or, take, drop, set, Some, None, Ok, Err, Option, Result, sym, refl, ap, ◌∙◌, ap₂, ⊎_elim, arith, lit≤, length-append, take-take, take_at}
use lib.ListN.{length-replicate}
use Rattle.std.proofs.lemmas.Bool.{eq-eqb, ne_eqb, cases_eq, ltb-true}
use Rattle.domain.specs.Meaning.{Meaning}
use Rattle.region.specs.declared.label.LabelRow.{LabelRow}
use Rattle.region.specs.declared.row.Row.{Row}
use Rattle.region.specs.Labels.{unused}
use Rattle.region.specs.Pieces.{laid_pieces}
use Rattle.region.specs.Rows.{blank, laid}
use Rattle.region_text.specs.declared.fault.Refusal.{Refusal as TextRefusal}
use Rattle.region_text.specs.Schedules.{Schedule, read_schedule}
use Rattle.region_text.specs.Sources.{Source, read_source}
use Rattle.region_text.proofs.Fits.{SourceFits, ScheduleFits, source_fits, schedule_fits}
use Rattle.shelf.specs.declared.refusal.Number.TheVariants as number
use Rattle.shelf.specs.Calls.{region_of}
use Rattle.shelf.specs.Refusals.{without_place}
use Rattle.shelf.specs.Store.{KeptRegion, Store, empty_region, rows_of_region, labels_of_region, written}
use Rattle.replay.specs.Requests as call
use Rattle.replay.specs.Requests.{Request}
use Rattle.replay.specs.Events.{Event, counts}
use Rattle.replay.specs.Held.{Held, said, said_for, held_after, held}
use Rattle.replay.specs.Stored.{source_part, schedule_part, label_part, rows_part, record_of, in_order, stored}
use Rattle.replay.proofs.Blocks.{in_order_same, length_in_order, part_in_order, written_in_order, written_within, getD_in_order, set_in_order}
use Rattle.region.proofs.Laid.{length_laid}
use Rattle.replay.proofs.ReadBack.{length_pieces}

-- stores of equal parts
pub same_store : (n : ℕ) {ks ks' : List KeptRegion} {rows rows' : List Row} {labels labels' : List LabelRow} → ks ≡ ks' → rows ≡ rows' → labels ≡ labels'
    → ◌≡◌ {A = Store} (record { count = n; regions = ks; rows = rows; labels = labels }) (record { count = n; regions = ks'; rows = rows'; labels = labels' })
same_store n p q r = λ i. record { count = n; regions = p i; rows = q i; labels = r i }

-- what is held fits its places
abbrev pub SourceInPlace : Option Source → Type 0
SourceInPlace None = Unit {0}
SourceInPlace (Some s) = SourceFits s

abbrev pub ScheduleInPlace : Option Schedule → Type 0
ScheduleInPlace None = Unit {0}
ScheduleInPlace (Some x) = ScheduleFits x

pub record Fits (h : Held) : Type 0 where
  pub source : SourceInPlace h.source
  pub schedule : ScheduleInPlace h.schedule

pub length_source_part : (o : Option Source) → SourceInPlace o → length (source_part o) ≡ 96
length_source_part None f = length-replicate 96 blank
length_source_part (Some s) f = length_laid 96 blank s.rows f.rows

length_schedule_part : (o : Option Schedule) → ScheduleInPlace o → length (schedule_part o) ≡ 288
length_schedule_part None f = length-replicate 288 blank
length_schedule_part (Some x) f =
    length-append (laid 96 blank x.rows) (laid_pieces x.exits ++ laid_pieces x.entries)
    ∙ omega (
      arith,
      length_laid 96 blank x.rows f.rows,
      length-append (laid_pieces x.exits) (laid_pieces x.entries),
      length_pieces x.exits f.exits,
      length_pieces x.entries f.entries,
      f.eight,
      f.four,
    )

pub length_label_part : (o : Option Source) → SourceInPlace o → length (label_part o) ≡ 9
length_label_part None f = length-replicate 9 unused
length_label_part (Some s) f = length_laid 9 unused s.labels f.labels

pub length_rows_part : (h : Held) → Fits h → length (rows_part h) ≡ 384
length_rows_part h f =
    length-append (source_part h.source) (schedule_part h.schedule)
    ∙ omega (arith, length_source_part h.source f.source, length_schedule_part h.schedule f.schedule)

-- whatever calls were granted, what is held fits
source_said : (t : List ℕ) → SourceInPlace (said (read_source t))
source_said t = go (read_source t) refl
  where
    go : (o : Result Source TextRefusal) → read_source t ≡ o → SourceInPlace (said o)
    go (Ok s) e = source_fits t s e
    go (Err f) e = tt

schedule_said : (o : Option Source) (t : List ℕ) → ScheduleInPlace (said_for o t)
schedule_said None t = tt
schedule_said (Some s) t = go (read_schedule (laid 9 unused s.labels) t) refl
  where
    go : (o : Result Schedule TextRefusal) → read_schedule (laid 9 unused s.labels) t ≡ o → ScheduleInPlace (said o)
    go (Ok x) e = schedule_fits (laid 9 unused s.labels) t x e
    go (Err f) e = tt

module _ {W : Type 0} (m : Meaning W) where
  pub after_fits : (c : Request) (h : Held) → Fits h → Fits (held_after m c h)
  after_fits (call.Source r t) h f = record { source = source_said t; schedule = tt }
  after_fits (call.Schedule r t) h f = record { source = f.source; schedule = schedule_said h.source t }
  after_fits (call.Check r lent) h f = record { source = f.source; schedule = f.schedule }
  after_fits (call.HandOut r) h f = f
  after_fits (call.Drop r) h f = record { source = tt; schedule = tt }

  pub held_fits : (r : ℕ) (es : List Event) → Fits (held m r es)
  held_fits r [] = record { source = tt; schedule = tt }
  held_fits r (e ∷ es) = go (counts r e) (held_fits r es)
    where
      go : (b : Bool) → Fits (held m r es) → Fits (cond b (held_after m e.call (held m r es)) (held m r es))
      go true f = after_fits e.call (held m r es) f
      go false f = f

-- G is H, but that region r holds h
pub record Changed (H G : ℕ → Held) (r : ℕ) (h : Held) : Type 0 where
  pub here : G r ≡ h
  pub there : (q : ℕ) → (q ≡ r → ⊥) → H q ≡ G q

pub changed : (H F : ℕ → Held) (r : ℕ) (h : Held) → F r ≡ h → Changed H (λ q. cond (eqb r q) (F q) (H q)) r h
changed H F r h e = record {
  here = ap (λ b. cond b (F r) (H r)) (eq-eqb r r refl) ∙ e;
  there = λ q ne. ap (λ b. cond b (F q) (H q)) (sym (ne_eqb r q (λ i. ne (sym i))));
}

module _ (n : ℕ) (H : ℕ → Held) (fits : (r : ℕ) → Fits (H r)) where
  wide_rows : (q : ℕ) → length (rows_part (H q)) ≡ 384
  wide_rows q = length_rows_part (H q) (fits q)

  wide_labels : (q : ℕ) → length (label_part (H q).source) ≡ 9
  wide_labels q = length_label_part (H q).source (fits q).source

  pub rows_at : (r : ℕ) → r < n → rows_of_region (stored n H) r ≡ rows_part (H r)
  rows_at r l = part_in_order 384 (λ q. rows_part (H q)) wide_rows n r l

  pub labels_at : (r : ℕ) → r < n → labels_of_region (stored n H) r ≡ label_part (H r).source
  labels_at r l = part_in_order 9 (λ q. label_part (H q).source) wide_labels n r l

  pub rows_many : length (in_order (λ r. rows_part (H r)) n) ≡ 384 * n
  rows_many = length_in_order 384 (λ q. rows_part (H q)) wide_rows n

  pub labels_many : length (in_order (λ r. label_part (H r).source) n) ≡ 9 * n
  labels_many = length_in_order 9 (λ q. label_part (H q).source) wide_labels n

  module _ (few : n ≤ 16) where
    pub record_at : (r : ℕ) → r < n → get_or (stored n H).regions r empty_region ≡ record_of (H r)
    record_at r l = getD_in_order (λ q. record_of (H q)) 16 r empty_region (omega arith)

    -- a region's record, where there is such a region
    pub region_known : (r : ℕ) (b : Bool) → ltb r n ≡ b → region_of (stored n H) r ≡ cond b (Ok (record_of (H r))) (Err (without_place number.Region))
    region_known r b e =
        ap (λ t. cond (t && eqb (length (stored n H).labels) (9 * n)) (cond (ltb r n) (Ok (get_or (stored n H).regions r empty_region)) (Err (without_place number.Region))) (Err (without_place number.Sizes))) (eq-eqb _ _ rows_many)
        ∙ ap (λ t. cond t (cond (ltb r n) (Ok (get_or (stored n H).regions r empty_region)) (Err (without_place number.Region))) (Err (without_place number.Sizes))) (eq-eqb _ _ labels_many)
        ∙ ap (λ t. cond t (Ok (get_or (stored n H).regions r empty_region)) (Err (without_place number.Region))) e
        ∙ go b e
      where
        go : (b : Bool) → ltb r n ≡ b → cond b (Ok (get_or (stored n H).regions r empty_region)) (Err (without_place number.Region)) ≡ cond b (Ok (record_of (H r))) (Err (without_place number.Region))
        go true e = ap Ok (record_at r (ltb-true r n e))
        go false e = refl

    module _ (G : ℕ → Held) (r : ℕ) (h : Held) (l : r < n) (ch : Changed H G r h) where
      records_put : set (stored n H).regions r (record_of h) ≡ (stored n G).regions
      records_put =
          ap (λ k. set (stored n H).regions r (record_of k)) (sym ch.here)
          ∙ set_in_order (λ q. record_of (H q)) (λ q. record_of (G q)) 16 r (omega arith) (λ q ne. ap record_of (ch.there q ne))

      rows_put : Fits h → written (384 * r) (rows_part h) (stored n H).rows ≡ (stored n G).rows
      rows_put f =
          written_in_order 384 (λ q. rows_part (H q)) wide_rows (λ q. rows_part (G q)) n r (rows_part h) l (ap rows_part ch.here) (length_rows_part h f)
          (λ q ne. ap rows_part (ch.there q ne))

      labels_put : Fits h → written (9 * r) (label_part h.source) (stored n H).labels ≡ (stored n G).labels
      labels_put f =
          written_in_order 9 (λ q. label_part (H q).source) wide_labels (λ q. label_part (G q).source) n r (label_part h.source) l
          (ap (λ k. label_part k.source) ch.here) (length_label_part h.source f.source) (λ q ne. ap (λ k. label_part k.source) (ch.there q ne))

      -- parts that the change leaves alone
      same_parts : {X : Type 0} (part : Held → List X) → part (H r) ≡ part h → in_order (λ q. part (H q)) n ≡ in_order (λ q. part (G q)) n
      same_parts part e =
          in_order_same (λ q. part (H q)) (λ q. part (G q)) n
          (λ q _. ⊎_elim (λ i. ap (λ k. part (H k)) i ∙ e ∙ ap part (sym ch.here) ∙ ap (λ k. part (G k)) (sym i)) (λ ne. ap part (ch.there q ne)) (cases_eq q r))

      -- record, rows and labels of region r are put in
      pub whole_put : Fits h
          → record { count = n; regions = set (stored n H).regions r (record_of h); rows = written (384 * r) (rows_part h) (stored n H).rows; labels = written (9 * r) (label_part h.source) (stored n H).labels }
          ≡ stored n G
      whole_put f = same_store n records_put (rows_put f) (labels_put f)

      -- record and schedule
      pub schedule_put_in : (k : KeptRegion) → k ≡ record_of h → h.source ≡ (H r).source → Fits h
          → record { count = n; regions = set (stored n H).regions r k; rows = written (384 * r + 96) (schedule_part h.schedule) (stored n H).rows; labels = (stored n H).labels }
          ≡ stored n G
      schedule_put_in k e s f =
          same_store n (ap (set (stored n H).regions r) e ∙ records_put)
          (written_within (384 * r) 96 (source_part h.source) (schedule_part h.schedule) (stored n H).rows front (omega (arith, rows_many, l)) ∙ rows_put f)
          (same_parts (λ k. label_part k.source) (ap label_part (sym s)))
        where
          front : take 96 (drop (384 * r) (stored n H).rows) ≡ source_part h.source
          front =
              sym (take-take 96 384 (drop (384 * r) (stored n H).rows) (lit≤ tt))
              ∙ ap (take 96) (rows_at r l)
              ∙ take_at (source_part (H r).source) (schedule_part (H r).schedule) 96 (length_source_part (H r).source (fits r).source)
              ∙ ap source_part (sym s)

      -- the record alone
      pub record_put : (k : KeptRegion) → k ≡ record_of h → h.source ≡ (H r).source → h.schedule ≡ (H r).schedule
          → record { count = n; regions = set (stored n H).regions r k; rows = (stored n H).rows; labels = (stored n H).labels } ≡ stored n G
      record_put k e s x =
          same_store n (ap (set (stored n H).regions r) e ∙ records_put)
          (same_parts rows_part (ap₂ (λ a b. source_part a ++ schedule_part b) (sym s) (sym x)))
          (same_parts (λ k. label_part k.source) (ap label_part (sym s)))
