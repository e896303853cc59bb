-- Demand 3: after any play, seek, set, clear, go-to-mark and mute calls from a fresh opening, refused ones among them, the player
-- stands at the cycle the calls name, in the state that one unbroken run from power-on, cycle by cycle, has there, all but the mute
-- bits. Each accepted play yields exactly that run's frames in its span, with the present mutes.
use Rattle.std.specs.Prelude.{◌≡◌, ℕ, ◌+◌, ◌-◌, ◌*◌, ◌/◌, ◌<◌, ◌≤◌, Bool, true, false, cond, not, ◌||◌, eqb, ltb, leb, List, [], ◌∷◌, ◌++◌, length, take, drop, ℤ, Ok, Err}
use Prim.Native.Nat.{suc-le-suc}
use mathlib.Core.Path.{refl, sym, ap, ap₂, subst, ◌∙◌}
use mathlib.Core.Bool.{true≢false}
use mathlib.Core.List.{append_assoc}
use native.Mathlib.Nat.{zero-add}
use native.Mathlib.Omega.{arith}
use borrow.Author.Tests.{le-leb, leb-true, leb-false, le-ltb, ltb-false, eq-eqb, ne_eqb, eqb-true, eqb-false}
use lib.ListN.{take-append-drop, length-append}
use lib.Seq.{drop_at, drop-drop, get_or-drop, length-sets, sets, take_at}
use Rattle.laws.proofs.Cases.{each, ways}
use Rattle.little.specs.Little.{bytes}
use Rattle.little.proofs.LittleLaws.{bytes-length, front_below, front_bytes, sets-after, sets-before, sets-there}
use Rattle.register_log.specs.Log.{check_of, count_of, due_before, edition1, log_answer, log_with}
use Rattle.register_log.specs.declared.Write.{Write}
use Rattle.register_log.proofs.AcceptedLaws.{accepted, writes-length}
use Rattle.image.specs.Image.{image_of, read_answer}
use Rattle.table.specs.Table.{newest}
use Rattle.image.proofs.RoundTrip.{image-420, reads-back}
use Rattle.marks.specs.Marks.{is_set, lowest_free, with_mark, without_mark}
use Rattle.marks.proofs.MarksLaws.{lowest-unset, set-with, set-without, unset-at-first, with-past, without-past}
use Rattle.refusal.specs.Refusal.{fault, ◌then◌, Answer}
use Rattle.refusal.specs.declared.Refusal.{Refusal}
use Rattle.refusal.specs.declared.Refusal.TheVariants.{Room, Place, MarkNumber, MarkUnset, MarksFull}
use Rattle.refusal.proofs.RefusalLaws.{passed, was-sound}
use Rattle.vsu.specs.Core.{all_at_most, frames_due, in_range, power_on, sides, unit_answer, with_mutes}
use Rattle.vsu.specs.declared.unit.Frame.{Frame}
use Rattle.vsu.specs.declared.unit.Vsu.{Vsu}
use Rattle.vsu.proofs.RangeLaws.{range-facts, small_at}
use Rattle.deck.specs.Calls.{AllSpare, Call, Deck, InRun, Named, Spares, after, after_all, answer_at, answer_of, at_cycle, at_start, named_all, named_by, names, opened, set_now, yields, yields_count, yields_counts, yields_entries}
use Rattle.deck.specs.Calls.Call.{play, seek, set_mark, set_free, clear, go_to, mute}
use Rattle.deck.specs.Player.{applied_place, clear_answer, clear_of, fresh, go_to_answer, go_to_of, image_place, in_slot, length_in, marked, memory_size, misplaced, moved_on, mute_answer, mute_of, muted, open_of, play_answer, play_by, play_of, restarted, seek_answer, seek_of, set_answer, set_by, slot_applied, slot_cycle, slot_image, slot_of, slot_place, slot_size, sought_from, standing_answer, turn_by, with_marks, writes_in}
use Rattle.deck.specs.Unbroken.{counts_of, frames_in, frames_on, in_all, moments_in, moments_on, state_at}
use Rattle.deck.specs.declared.Player.{Player}
use Rattle.deck.proofs.PlayerLaws.{clear-passed, go-to-passed, image-sound, mute-passed, play-passed, seek-passed, set-passed}
use Rattle.deck.proofs.UnbrokenLaws.{bytes_of, counts-span, due-most, due-none, frames-on-length, frames-span, in_all_lem, moments-on-length, moments-span, run-on-mutes, state-add-mutes, state-keeps-muted, state-run}

-- "it writes only that slot"
pub other-slot : (l : List ℕ) (j k : ℕ) (vs : List ℕ) → length vs ≡ slot_size → (j ≡ k → ⊥) → take slot_size (drop (slot_place j) (sets l (slot_place k) vs)) ≡ take slot_size (drop (slot_place j) l)
other-slot l j k vs e d = go (leb j k) refl
  where
    go : (t : Bool) → leb j k ≡ t → take slot_size (drop (slot_place j) (sets l (slot_place k) vs)) ≡ take slot_size (drop (slot_place j) l)
    go true g =
        let lt : j < k = omega (arith, leb-true j k g, d) in
        sets-before l (slot_place j) slot_size (slot_place k) vs (omega arith)
    go false g =
        let lt : k < j = leb-false j k g in
        ap (take slot_size) (sets-after l (slot_place j) (slot_place k) vs (omega arith))

-- An accepted log.

module _ (b : List ℕ) (small : all_at_most 255 b ≡ true) (log : log_answer edition1 b ≡ Ok tt) where
  abbrev ws : List Write
  ws = writes_in b

  abbrev cycles : ℕ
  cycles = length_in b

  checked-as : check_of edition1 b ≡ log_with (count_of b) cycles
  unfolding check_of
  checked-as = rw log

  -- the run at cycle t, with mutes
  abbrev unit_at : ℕ → ℕ → Vsu
  unit_at t x = with_mutes (state_at ws t) x

  ranged : (t x : ℕ) → x ≤ 63 → in_range (unit_at t x) ≡ true
  ranged t x = state-keeps-muted ws t x (bytes_of b small (count_of b) 0)

  cycles-below : cycles < 4294967296
  cycles-below = front_below 4 (drop 12 b) (λ i. rw (get_or-drop 12 b i 0) (suc-le-suc (small_at 255 b small (12 + i))))

  due_below : (t : ℕ) → due_before ws t < 4294967296
  due_below t =
      omega (arith, due-most ws t, writes-length edition1 b (count_of b) 0, (accepted edition1 b (count_of b) cycles checked-as).most)

  -- what a slot holds that was set at cycle t, with mutes
  abbrev slot_at : ℕ → ℕ → List ℕ
  slot_at t x = bytes 4 t ++ (bytes 4 (due_before ws t) ++ image_of newest (unit_at t x))

  pub record Kept (memory : List ℕ) (k t : ℕ) : Type 0 where
    pub mutes : ℕ
    pub few : mutes ≤ 63
    pub room : memory_size ≤ length memory
    pub within : t ≤ cycles
    pub slot : take slot_size (drop (slot_place k) memory) ≡ slot_at t mutes

  -- the opening of an accepted log is the record that the decks start from
  pub opens : open_of b ≡ record { player = fresh; answer = Ok tt }
  unfolding turn_by
  opens = rw log

  -- With the mark memory that the opening finds.

  module _ (memory : List ℕ) where
    abbrev size : ℕ
    size = length memory

    -- The invariant: the record stands in the run at the cycle named, with the mutes named, and every set mark's slot holds the run at the
    -- cycle of its setting, with mutes that no go-to takes.
    pub record Holds (d : Deck) (m : Named) : Type 0 where
      pub cycle : d.player.cycle ≡ m.cycle
      pub within : m.cycle ≤ cycles
      pub few : m.mutes ≤ 63
      pub unit : d.player.unit ≡ unit_at m.cycle m.mutes
      pub applied : d.player.applied ≡ due_before ws m.cycle
      pub marks : d.player.marks ≡ m.marks
      pub sized : length d.memory ≡ size
      pub kept : (k : ℕ) → k ≤ 15 → is_set k d.player.marks ≡ true → Kept d.memory k (m.mark k)

    start-holds : Holds (opened memory) at_start
    unfolding state_at power_on
    start-holds =
        record {
          cycle = refl;
          within = omega arith;
          few = omega arith;
          unit = refl;
          applied = sym (due-none ws);
          marks = refl;
          sized = refl;
          kept = λ k h s. absurd (true≢false (sym s ∙ unset-at-first k));
        }

    module _ (d : Deck) (m : Named) (h : Holds d m) where
      abbrev p : Player
      p = d.player

      stands : standing_answer p b ≡ Ok tt
      unfolding standing_answer unit_answer misplaced fault ◌then◌
      stands = rw (log, h.unit, ranged m.cycle m.mutes h.few, h.cycle, h.applied, le-leb _ _ h.within, eq-eqb (due_before ws m.cycle) _ refl)

      -- the record moved on
      moved_on_lem : (n : ℕ) → m.cycle + n ≤ cycles → Holds (record { player = moved_on ws p n; memory = d.memory }) (at_cycle (m.cycle + n) m)
      unfolding moved_on
      moved_on_lem n l =
          record {
            cycle = rw h.cycle;
            within = l;
            few = h.few;
            unit = rw (h.cycle, h.unit) (sym (state-add-mutes ws m.mutes m.cycle n));
            applied = rw h.cycle;
            marks = h.marks;
            sized = h.sized;
            kept = h.kept;
          }

      mutes-named : p.unit.mutes ≡ m.mutes
      mutes-named = ap (λ (u : Vsu). u.mutes) h.unit

      from_start : (t : ℕ) → t ≤ cycles → Holds (record { player = moved_on ws (restarted p) t; memory = d.memory }) (at_cycle t m)
      unfolding moved_on
      from_start t l =
          record {
            cycle = zero-add t;
            within = l;
            few = h.few;
            unit = rw mutes-named (run-on-mutes m.mutes ws 0 power_on t ∙ ap (λ (u : Vsu). with_mutes u m.mutes) (sym (state-run ws t)));
            applied = rw (zero-add t);
            marks = h.marks;
            sized = h.sized;
            kept = h.kept;
          }

      -- A call's result, whatever it is: the invariant of the record and the memory that it leaves, with what its answer names.
      abbrev Left : Call → Answer → Player → List ℕ → Type 0
      Left c a q memory = Holds (record { player = q; memory = memory }) (named_by a c m)

      still : (c : Call) (why : Refusal) → Left c (Err why) p d.memory
      unfolding named_by
      still c why = h

      -- A call that hands back a turn: where it is accepted, the invariant of what it makes of the record.
      turn_holds : (c : Call) (a : Answer) (q : Player) → (a ≡ Ok tt → Left c (Ok tt) q d.memory) → Left c a (turn_by a p q).player d.memory
      unfolding turn_by
      turn_holds c (Ok done) q f = f refl
      turn_holds c (Err why) q f = still c why

      -- Play.

      play-holds : (n : ℕ) (out : List ℤ) → Left (play n out) (play_answer p n b (length out)) (play_of p n b out).played.player d.memory
      unfolding play_by named_by names
      play-holds n out = go (play_answer p n b (length out)) refl
        where
          go : (a : Answer) → play_answer p n b (length out) ≡ a → Left (play n out) a (play_by a p n b out).played.player d.memory
          go (Ok done) e = moved_on_lem n (rw h.cycle at (play-passed p b n (length out) e))
          go (Err why) e = still (play n out) why

      -- Seek.

      sought : (t : ℕ) → t ≤ cycles → Left (seek t) (Ok tt) (sought_from ws p t) d.memory
      unfolding named_by names sought_from
      sought t l =
          ways (λ (q : Player). Left (seek t) (Ok tt) q d.memory) (leb p.cycle t)
          (λ g.
          let e : m.cycle + (t - p.cycle) ≡ t = omega (arith, leb-true p.cycle t g, h.cycle) in
          subst (λ (c : ℕ). Holds (record { player = moved_on ws p (t - p.cycle); memory = d.memory }) (at_cycle c m)) e
          (moved_on_lem (t - p.cycle) (rw e l)))
          (λ _. from_start t l)

      seek-holds : (t : ℕ) → Left (seek t) (seek_answer p t b) (seek_of p t b).player d.memory
      seek-holds t = turn_holds (seek t) (seek_answer p t b) (sought_from ws p t) (λ e. sought t (seek-passed p b t e))

      -- Clear.

      cleared : (k : ℕ) → k ≤ 15 → Left (clear k) (Ok tt) (with_marks p (without_mark k p.marks)) d.memory
      unfolding named_by names
      cleared k l =
          record {
            cycle = h.cycle;
            within = h.within;
            few = h.few;
            unit = h.unit;
            applied = h.applied;
            marks = ap (without_mark k) h.marks;
            sized = h.sized;
            kept = λ j g s.
                each (not (eqb j k)) (is_set j p.marks ∷ []) (sym (set-without j k p.marks l) ∙ s)
                (λ f. h.kept j g f.1.0);
          }

      clear-holds : (k : ℕ) → Left (clear k) (clear_answer p k) (clear_of p k).player d.memory
      clear-holds k = turn_holds (clear k) (clear_answer p k) (with_marks p (without_mark k p.marks)) (λ e. cleared k (clear-passed p k e))

      -- Mute.

      now-muted : (bits : ℕ) → bits ≤ 63 → Left (mute bits) (Ok tt) (muted p bits) d.memory
      unfolding named_by names
      now-muted bits l =
          record {
            cycle = h.cycle;
            within = h.within;
            few = l;
            unit = ap (λ (u : Vsu). with_mutes u bits) h.unit;
            applied = h.applied;
            marks = h.marks;
            sized = h.sized;
            kept = h.kept;
          }

      mute-holds : (bits : ℕ) → Left (mute bits) (mute_answer p bits) (mute_of p bits).player d.memory
      mute-holds bits = turn_holds (mute bits) (mute_answer p bits) (muted p bits) (λ e. now-muted bits (mute-passed p bits e))

      -- Set, of a slot named or of the lowest free one.

      slot_is : slot_of p ≡ slot_at m.cycle m.mutes
      slot_is = rw (h.cycle, h.applied, h.unit)

      slot-length : length (slot_of p) ≡ slot_size
      slot-length =
          length-append (bytes 4 p.cycle) (bytes 4 p.applied ++ image_of newest p.unit)
          ∙ omega (arith, length-append (bytes 4 p.applied) (image_of newest p.unit), bytes-length 4 p.cycle, bytes-length 4 p.applied, image-420 p.unit)

      module _ (k : ℕ) (l : k ≤ 15) (r : memory_size ≤ length d.memory) where
        abbrev stored : List ℕ
        stored = sets d.memory (slot_place k) (slot_of p)

        stored-room : memory_size ≤ length stored
        stored-room = rw (length-sets d.memory (slot_place k) (slot_of p)) r

        stored-kept : (j : ℕ) → j ≤ 15 → (t : Bool) → eqb j k ≡ t → (t || is_set j p.marks) ≡ true → Kept stored j (cond t m.cycle (m.mark j))
        stored-kept j g true e s =
            record {
              mutes = m.mutes;
              few = h.few;
              room = stored-room;
              within = h.within;
              slot = rw (eqb-true j k e) (sets-there d.memory (slot_place k) slot_size (slot_of p) slot-length (omega arith) ∙ slot_is);
            }
        stored-kept j g false e s =
            let o : Kept d.memory j (m.mark j) = h.kept j g s in
            record {
              mutes = o.mutes;
              few = o.few;
              room = stored-room;
              within = o.within;
              slot = other-slot d.memory j k (slot_of p) slot-length (eqb-false j k e) ∙ o.slot;
            }

        stored-holds : Holds (record { player = marked p k; memory = stored }) (set_now k m)
        stored-holds =
            record {
              cycle = h.cycle;
              within = h.within;
              few = h.few;
              unit = h.unit;
              applied = h.applied;
              marks = ap (with_mark k) h.marks;
              sized = length-sets d.memory (slot_place k) (slot_of p) ∙ h.sized;
              kept = λ j g s. stored-kept j g (eqb j k) refl (sym (set-with j k p.marks l) ∙ s);
            }

      -- what a set of slot k leaves, refused by `above` where it is too large
      module _ (c : Call) (above : Refusal) (k : ℕ) (e : names c m ≡ set_now k m) where
        abbrev Sets : Answer → Type 0
        Sets a = Left c a (set_by a p k d.memory).turn.player (set_by a p k d.memory).memory

        set-by : (a : Answer) → set_answer above p k b (length d.memory) ≡ a → Sets a
        unfolding set_by named_by
        set-by (Ok done) f = let t = set-passed p b above k (length d.memory) f in rw e (stored-holds k t.1 t.0)
        set-by (Err why) f = still c why

        set_holds : Sets (set_answer above p k b (length d.memory))
        set_holds = set-by (set_answer above p k b (length d.memory)) refl

      -- Go to: the slot reads back as the run at the cycle of its setting.

      module _ (k t : ℕ) (o : Kept d.memory k t) where
        abbrev rest : List ℕ
        rest = drop slot_size (drop (slot_place k) d.memory)

        abbrev image : List ℕ
        image = image_of newest (unit_at t o.mutes)

        from-slot : drop (slot_place k) d.memory ≡ bytes 4 t ++ (bytes 4 (due_before ws t) ++ (image ++ rest))
        from-slot =
            sym (take-append-drop slot_size (drop (slot_place k) d.memory))
            ∙ ap (λ (l : List ℕ). l ++ rest) o.slot
            ∙ append_assoc (bytes 4 t) (bytes 4 (due_before ws t) ++ image) rest
            ∙ ap (λ (l : List ℕ). bytes 4 t ++ l) (append_assoc (bytes 4 (due_before ws t)) image rest)

        from-applied : drop (slot_place k + applied_place) d.memory ≡ bytes 4 (due_before ws t) ++ (image ++ rest)
        from-applied =
            sym (drop-drop 4 (slot_place k) d.memory) ∙ ap (drop 4) from-slot
            ∙ drop_at (bytes 4 t) (bytes 4 (due_before ws t) ++ (image ++ rest)) 4 (bytes-length 4 t)

        from-image : drop (slot_place k + image_place) d.memory ≡ image ++ rest
        from-image =
            let e : slot_place k + image_place ≡ slot_place k + applied_place + 4 = omega arith in
            ap (λ (i : ℕ). drop i d.memory) e ∙ sym (drop-drop 4 (slot_place k + applied_place) d.memory) ∙ ap (drop 4) from-applied
            ∙ drop_at (bytes 4 (due_before ws t)) (image ++ rest) 4 (bytes-length 4 (due_before ws t))

        cycle-back : slot_cycle d.memory k ≡ t
        cycle-back = rw from-slot (front_bytes 4 t (bytes 4 (due_before ws t) ++ (image ++ rest)) (omega (arith, o.within, cycles-below)))

        applied_back : slot_applied d.memory k ≡ due_before ws t
        applied_back = rw from-applied (front_bytes 4 (due_before ws t) (image ++ rest) (due_below t))

        image-back : slot_image d.memory k ≡ image
        image-back = rw from-image (take_at image rest (slot_size - image_place) (image-420 (unit_at t o.mutes)))

        -- the record that it leads to
        abbrev there : Player
        there = record { unit = unit_at t p.unit.mutes; cycle = t; applied = due_before ws t; marks = p.marks }

        recalls : in_slot p d.memory k ≡ there
        unfolding in_slot
        recalls = rw (image-back, reads-back (unit_at t o.mutes) (ranged t o.mutes o.few), cycle-back, applied_back)

        -- none of the slot's own faults
        sound-image : read_answer (slot_image d.memory k) ≡ Ok tt
        sound-image = rw image-back (image-sound (unit_at t o.mutes) (ranged t o.mutes o.few))

        sound-place : misplaced b (slot_cycle d.memory k) (slot_applied d.memory k) ≡ false
        unfolding misplaced
        sound-place = rw (cycle-back, applied_back, le-leb t cycles o.within, eq-eqb (due_before ws t) (due_before ws t) refl)

      went : (k : ℕ) → Kept d.memory k (m.mark k) → Left (go_to k) (Ok tt) (in_slot p d.memory k) d.memory
      unfolding named_by names
      went k o =
          rw (recalls k (m.mark k) o)
          (record {
            cycle = refl;
            within = o.within;
            few = h.few;
            unit = ap (unit_at (m.mark k)) mutes-named;
            applied = refl;
            marks = h.marks;
            sized = h.sized;
            kept = h.kept;
          })

      go-to-holds : (k : ℕ) → Left (go_to k) (go_to_answer p k b d.memory) (go_to_of p k b d.memory).player d.memory
      go-to-holds k =
          turn_holds (go_to k) (go_to_answer p k b d.memory) (in_slot p d.memory k)
          (λ e. let t = go-to-passed p b k d.memory e in went k (h.kept k t.0 t.1))

      -- What a play leaves in its buffer.

      abbrev present : Vsu
      present = unit_at m.cycle m.mutes

      output-below : present.output ≤ 479
      output-below = (range-facts present (ranged m.cycle m.mutes h.few)).output

      abbrev span : ℕ → List Frame
      span n = frames_in ws m.mutes m.cycle (m.cycle + n)

      span-length : (n : ℕ) → length (span n) ≡ frames_due present n
      span-length n = rw (frames-span ws m.mutes m.cycle n) (frames-on-length ws m.cycle present output-below n)

      spanned : (n : ℕ) (out : List ℤ) → sides (frames_on ws p.cycle p.unit n) ++ drop (frames_due p.unit n * 2) out ≡ sides (span n) ++ drop (length (span n) * 2) out
      spanned n out = rw (span-length n, frames-span ws m.mutes m.cycle n, h.cycle, h.unit)

      play-yields : (n : ℕ) (out : List ℤ) (a : Answer) → (play_by a p n b out).out ≡ yields ws m.mutes m.cycle a n out
      unfolding play_by yields
      play-yields n out (Ok done) = spanned n out
      play-yields n out (Err why) = refl

      play-counts : (n : ℕ) (out : List ℤ) (a : Answer) → (play_by a p n b out).played.frames ≡ yields_count ws m.mutes m.cycle a n
      unfolding play_by yields_count
      play-counts n out (Ok done) = ap (λ (u : Vsu). frames_due u n) h.unit ∙ sym (span-length n)
      play-counts n out (Err why) = refl

      span_counts : (n : ℕ) → counts_of (moments_on ws p.cycle p.unit n) ≡ counts_of (moments_in ws m.cycle (m.cycle + n))
      span_counts n = rw (h.cycle, h.unit) (counts-span ws m.mutes m.cycle n)

      play-sorts : (n : ℕ) (out : List ℤ) (a : Answer) → (play_by a p n b out).played.counts ≡ yields_counts ws m.cycle a n
      unfolding play_by yields_counts
      play-sorts n out (Ok done) = span_counts n
      play-sorts n out (Err why) = refl

      sorts-in-all : (n : ℕ) (a : Answer) → in_all (yields_counts ws m.cycle a n) ≡ yields_entries ws m.cycle a n
      unfolding yields_counts yields_entries
      sorts-in-all n (Ok done) =
          in_all_lem (moments_in ws m.cycle (m.cycle + n)) ∙ ap length (moments-span ws m.cycle n)
          ∙ omega (arith, moments-on-length ws m.cycle (state_at ws m.cycle) n)
      sorts-in-all n (Err why) = refl

      -- The answers.

      play-answer : (n : ℕ) (out : List ℤ) → play_answer p n b (length out) ≡ answer_at ws cycles size (play n out) m
      unfolding play_answer answer_at ◌then◌
      play-answer n out = rw (stands, h.cycle, h.unit, span-length n)

      seek-answer : (t : ℕ) → seek_answer p t b ≡ answer_at ws cycles size (seek t) m
      unfolding seek_answer answer_at ◌then◌
      seek-answer t = rw stands

      set-answer : (above : Refusal) (k : ℕ) → set_answer above p k b (length d.memory) ≡ (fault (ltb size memory_size) Room then fault (ltb 15 k) above)
      unfolding set_answer ◌then◌
      set-answer above k = rw (stands, h.sized)

      clear-answer : (k : ℕ) → clear_answer p k ≡ answer_at ws cycles size (clear k) m
      unfolding clear_answer unit_answer answer_at fault ◌then◌
      clear-answer k = rw (h.unit, ranged m.cycle m.mutes h.few, h.marks)

      mute-answer : (bits : ℕ) → mute_answer p bits ≡ answer_at ws cycles size (mute bits) m
      unfolding mute_answer unit_answer answer_at fault ◌then◌
      mute-answer bits = rw (h.unit, ranged m.cycle m.mutes h.few)

      go-to-answer : (k : ℕ) → go_to_answer p k b d.memory ≡ answer_at ws cycles size (go_to k) m
      unfolding go_to_answer answer_at fault ◌then◌
      go-to-answer k =
          rw (stands, h.sized, sym h.marks) (go (ltb size memory_size) (ltb 15 k) (is_set k p.marks) refl refl)
        where
          last : Answer
          last = read_answer (slot_image d.memory k) then fault (misplaced b (slot_cycle d.memory k) (slot_applied d.memory k)) Place

          go : (r l s : Bool) → ltb 15 k ≡ l → is_set k p.marks ≡ s → (fault r Room then fault l MarkNumber then fault (not s) MarkUnset then last) ≡ (fault r Room then fault l MarkNumber then fault (not s) MarkUnset)
          go true l s _ _ = refl
          go false true s _ _ = refl
          go false false false _ _ = refl
          go false false true l s = let o = h.kept k (ltb-false 15 k l) s in rw (sound-image k (m.mark k) o, sound-place k (m.mark k) o)

      pub answers : (c : Call) → answer_of b c d ≡ answer_at ws cycles size c m
      unfolding answer_of answer_at
      answers (play n out) = play-answer n out
      answers (seek t) = seek-answer t
      answers (set_mark k) = set-answer MarkNumber k
      answers set_free = set-answer MarksFull (lowest_free p.marks) ∙ rw h.marks
      answers (clear k) = clear-answer k
      answers (go_to k) = go-to-answer k
      answers (mute bits) = mute-answer bits

      sorts : (n : ℕ) (out : List ℤ) → (play_of p n b out).played.counts ≡ yields_counts ws m.cycle (answer_at ws cycles size (play n out) m) n
      sorts n out = rw (play-answer n out) (play-sorts n out (answer_at ws cycles size (play n out) m))

      in-run : InRun b ws cycles size d m
      in-run =
          record {
            cycle = h.cycle;
            unit = h.unit;
            applied = h.applied;
            marks = h.marks;
            answers = answers;
            plays = λ n out. rw (play-answer n out) (play-yields n out (answer_at ws cycles size (play n out) m));
            counts = λ n out. rw (play-answer n out) (play-counts n out (answer_at ws cycles size (play n out) m));
            sorts = sorts;
            entries = λ n out. ap in_all (sorts n out) ∙ sorts-in-all n (answer_at ws cycles size (play n out) m);
          }

    -- Every call keeps the invariant: a new call adds a case.
    answered-holds : (c : Call) (d : Deck) (m : Named) → Holds d m → Holds (after b c d) (named_by (answer_of b c d) c m)
    unfolding after answer_of names
    answered-holds (play n out) d m h = play-holds d m h n out
    answered-holds (seek t) d m h = seek-holds d m h t
    answered-holds (set_mark k) d m h = set_holds d m h (set_mark k) MarkNumber k refl
    answered-holds set_free d m h = set_holds d m h set_free MarksFull (lowest_free d.player.marks) (ap (λ (i : ℕ). set_now (lowest_free i) m) (sym h.marks))
    answered-holds (clear k) d m h = clear-holds d m h k
    answered-holds (go_to k) d m h = go-to-holds d m h k
    answered-holds (mute bits) d m h = mute-holds d m h bits

    -- what the calls name after one more
    abbrev next : Call → Named → Named
    next c m = named_by (answer_at ws cycles size c m) c m

    pub step-holds : (c : Call) (d : Deck) (m : Named) → Holds d m → Holds (after b c d) (next c m)
    step-holds c d m h = subst (λ (a : Answer). Holds (after b c d) (named_by a c m)) (answers d m h c) (answered-holds c d m h)

    all_hold : (cs : List Call) (d : Deck) (m : Named) → Holds d m → Holds (after_all b cs d) (named_all ws cycles size cs m)
    unfolding after_all named_all
    all_hold [] d m h = h
    all_hold (c ∷ cs) d m h = all_hold cs (after b c d) (next c m) (step-holds c d m h)

    abbrev pub deck_of : List Call → Deck
    deck_of cs = after_all b cs (opened memory)

    abbrev pub named_of : List Call → Named
    named_of cs = named_all ws cycles size cs at_start

    reached : (cs : List Call) → Holds (deck_of cs) (named_of cs)
    reached cs = all_hold cs (opened memory) at_start start-holds

    -- Demand 3.
    pub demand-3 : (cs : List Call) → InRun b ws cycles size (deck_of cs) (named_of cs)
    demand-3 cs = in-run _ _ (reached cs)

    -- What follows from it.

    -- a call that 01 accepts there is accepted, and stands where it names
    goes_on : (c : Call) (d : Deck) (m : Named) → Holds d m → answer_at ws cycles size c m ≡ Ok tt → Holds (after b c d) (names c m)
    unfolding named_by
    goes_on c d m h a = subst (λ (r : Answer). Holds (after b c d) (named_by r c m)) a (step-holds c d m h)

    -- the run's frames from t to t + n, with the mutes that the calls have named
    abbrev jumped : List Call → ℕ → ℕ → List Frame
    jumped cs t n = frames_in ws (named_of cs).mutes t (t + n)

    -- wherever the deck stands, a seek to t and a play of n yield what the unbroken run yields from t to t + n with the present mutes,
    -- where L and the buffer have room for it
    pub jump_back : (cs : List Call) (t n : ℕ) (out : List ℤ) → t + n ≤ cycles → length (jumped cs t n) ≤ length out / 2 → (answer_of b (play n out) (after b (seek t) (deck_of cs)) ≡ Ok tt) × ((play_of (after b (seek t) (deck_of cs)).player n b out).out ≡ sides (jumped cs t n) ++ drop (length (jumped cs t n) * 2) out)
    unfolding answer_at names yields fault ◌then◌
    jump_back cs t n out l r =
        let m : Named = named_of cs in
        let a : answer_at ws cycles size (seek t) m ≡ Ok tt = rw (le-ltb cycles t (omega arith)) in
        let s = in-run _ _ (goes_on (seek t) (deck_of cs) m (reached cs) a) in
        let e : answer_at ws cycles size (play n out) (names (seek t) m) ≡ Ok tt = rw (le-ltb cycles (t + n) l, le-leb (length (jumped cs t n)) (length out / 2) r) in
        (s.answers (play n out) ∙ e, rw e at (s.plays n out))

    -- A set mark that a call spares stays set, and at its cycle.

    module _ (k : ℕ) (l : k ≤ 15) where
      abbrev Stays : Named → Named → Type 0
      Stays m q = (is_set k q.marks ≡ true) × (q.mark k ≡ m.mark k)

      -- another mark set, or none where there is no such mark
      beside : (m : Named) → is_set k m.marks ≡ true → (j : ℕ) → (k ≡ j → ⊥) → Stays m (set_now j m)
      beside m s j n = (go (leb j 15) refl, rw (ne_eqb k j n))
        where
          go : (t : Bool) → leb j 15 ≡ t → is_set k (with_mark j m.marks) ≡ true
          go true g = rw (set-with k j m.marks (leb-true j 15 g), ne_eqb k j n) s
          go false g = subst (λ (x : ℕ). is_set k x ≡ true) (with-past j m.marks (leb-false j 15 g)) s

      without : (m : Named) → is_set k m.marks ≡ true → (j : ℕ) → (k ≡ j → ⊥) → is_set k (without_mark j m.marks) ≡ true
      without m s j n = go (leb j 15) refl
        where
          go : (t : Bool) → leb j 15 ≡ t → is_set k (without_mark j m.marks) ≡ true
          go true g = rw (set-without k j m.marks (leb-true j 15 g), ne_eqb k j n) s
          go false g = subst (λ (x : ℕ). is_set k x ≡ true) (without-past j m.marks (leb-false j 15 g)) s

      name-spares : (c : Call) → Spares k c → (m : Named) → is_set k m.marks ≡ true → Stays m (names c m)
      unfolding names
      name-spares (play n out) f m s = (s, refl)
      name-spares (seek t) f m s = (s, refl)
      name-spares (set_mark j) f m s = beside m s j f
      name-spares set_free f m s = beside m s (lowest_free m.marks) (λ e. true≢false (sym s ∙ ap (λ (i : ℕ). is_set i m.marks) e ∙ lowest-unset m.marks (subst (λ (i : ℕ). i ≤ 15) e l)))
      name-spares (clear j) f m s = (without m s j f, refl)
      name-spares (go_to j) f m s = (s, refl)
      name-spares (mute bits) f m s = (s, refl)

      next-spares : (c : Call) → Spares k c → (m : Named) → is_set k m.marks ≡ true → (a : Answer) → Stays m (named_by a c m)
      unfolding named_by
      next-spares c f m s (Ok done) = name-spares c f m s
      next-spares c f m s (Err why) = (s, refl)

      all-spare : (cs : List Call) → AllSpare k cs → (m : Named) → is_set k m.marks ≡ true → Stays m (named_all ws cycles size cs m)
      unfolding named_all
      all-spare [] f m s = (s, refl)
      all-spare (c ∷ cs) f m s =
          let g = next-spares c f.0 m s (answer_at ws cycles size c m) in
          let r = all-spare cs f.1 (next c m) g.0 in
          (r.0, r.1 ∙ g.1)

    -- A deck reached by cs, mark k set by a call c, then calls es that spare it, then a go-to of it.

    module _ (cs es : List Call) (c : Call) (k : ℕ) (f : AllSpare k es) where
      abbrev before : Deck
      before = deck_of cs

      abbrev back : Deck
      back = after_all b es (after b c before)

      -- at the cycle and in the state of the set, all but the mutes, which are those before the go-to
      abbrev Returned : Type 0
      Returned =
          (answer_of b (go_to k) back ≡ Ok tt)
          × (((after b (go_to k) back).player.cycle ≡ before.player.cycle) × ((after b (go_to k) back).player.unit ≡ with_mutes before.player.unit back.player.unit.mutes))

      -- the go-to is accepted and stands where the deck stood
      returns : names c (named_of cs) ≡ set_now k (named_of cs) → answer_at ws cycles size c (named_of cs) ≡ Ok tt → k ≤ 15 → memory_size ≤ size → Returned
      unfolding answer_at names fault ◌then◌
      returns e a l r =
          let m : Named = named_of cs in
          let o = reached cs in
          let h : Holds (after b c before) (set_now k m) = subst (Holds (after b c before)) e (goes_on c before m o a) in
          let s : is_set k (with_mark k m.marks) ≡ true = rw (set-with k k m.marks l, eq-eqb k k refl) in
          let g = all-spare k l es f (set_now k m) s in
          let q : Named = named_all ws cycles size es (set_now k m) in
          let w : answer_at ws cycles size (go_to k) q ≡ Ok tt = rw (le-ltb size memory_size r, le-ltb 15 k l, g.0) in
          let z : Holds back q = all_hold es _ _ h in
          let t = goes_on (go_to k) back q z w in
          let n : q.mark k ≡ m.cycle = g.1 ∙ rw (eq-eqb k k refl) in
          ((in-run _ _ z).answers (go_to k) ∙ w, (t.cycle ∙ n ∙ sym o.cycle, t.unit ∙ ap₂ unit_at n (sym (ap (λ (u : Vsu). u.mutes) z.unit)) ∙ ap (λ (u : Vsu). with_mutes u back.player.unit.mutes) (sym o.unit)))

    -- room for the marks, and a slot of the sixteen
    room-and-slot : (k : ℕ) (above : Refusal) → (fault (ltb size memory_size) Room then fault (ltb 15 k) above) ≡ Ok tt → (memory_size ≤ size) × (k ≤ 15)
    room-and-slot k above e =
        let t = passed (ltb size memory_size) Room e in
        (ltb-false size memory_size t.0, ltb-false 15 k (was-sound (ltb 15 k) above t.1))

    -- a mark set by its number
    pub set-then-return : (cs es : List Call) (k : ℕ) (f : AllSpare k es) → answer_of b (set_mark k) (deck_of cs) ≡ Ok tt → Returned cs es (set_mark k) k f
    unfolding answer_at names
    set-then-return cs es k f a =
        let e : answer_at ws cycles size (set_mark k) (named_of cs) ≡ Ok tt = sym ((demand-3 cs).answers (set_mark k)) ∙ a in
        let t = room-and-slot k MarkNumber e in
        returns cs es (set_mark k) k f refl e t.1 t.0

    -- and the lowest free one
    pub free-then-return : (cs es : List Call) (k : ℕ) (f : AllSpare k es) → k ≡ lowest_free (deck_of cs).player.marks → answer_of b set_free (deck_of cs) ≡ Ok tt → Returned cs es set_free k f
    unfolding answer_at names
    free-then-return cs es k f i a =
        let e : answer_at ws cycles size set_free (named_of cs) ≡ Ok tt = sym ((demand-3 cs).answers set_free) ∙ a in
        let j : lowest_free (named_of cs).marks ≡ k = ap lowest_free (sym (demand-3 cs).marks) ∙ sym i in
        let t = room-and-slot (lowest_free (named_of cs).marks) MarksFull e in
        returns cs es set_free k f (ap (λ (n : ℕ). set_now n (named_of cs)) j) e (subst (λ (n : ℕ). n ≤ 15) j t.1) t.0

  -- two ways to one cycle end in one state, all but the mutes
  pub one-cycle-one-state : (memory memory' : List ℕ) (cs cs' : List Call) → (deck_of memory cs).player.cycle ≡ (deck_of memory' cs').player.cycle → ((x : ℕ) → with_mutes (deck_of memory cs).player.unit x ≡ with_mutes (deck_of memory' cs').player.unit x) × ((deck_of memory cs).player.applied ≡ (deck_of memory' cs').player.applied)
  one-cycle-one-state memory memory' cs cs' e =
      let h = demand-3 memory cs in
      let g = demand-3 memory' cs' in
      let c : (named_of memory cs).cycle ≡ (named_of memory' cs').cycle = sym h.cycle ∙ e ∙ g.cycle in
      (λ x. ap (λ (u : Vsu). with_mutes u x) h.unit ∙ ap (λ (t : ℕ). unit_at t x) c ∙ ap (λ (u : Vsu). with_mutes u x) (sym g.unit), h.applied ∙ ap (due_before ws) c ∙ sym g.applied)
