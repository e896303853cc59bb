-- The recording: whatever the calls, what an accepted finish leaves is a log of the writes that were added.
use Prim.Native.Nat.{ℕ, zero, suc, max, ◌+◌, ◌*◌, ◌/◌, ◌%◌, ◌<◌, ◌≤◌}
use mathlib.Core.Path.{◌≡◌, refl, sym, ap, subst, ◌∙◌}
use mathlib.Core.Bool.{true, false, not, ◌&&◌}
use mathlib.Core.List.{List, [], ◌∷◌, ◌++◌}
use native.Mathlib.Decide.{ℕ_discrete}
use native.Mathlib.Nat.{le_refl, le_trans}
use native.Mathlib.Omega.{arith}
use borrow.Author.Tests.{le-leb, le-ltb, leb-false, ltb-false, ne_eqb}
use lib.Dec.{eqb, leb, ltb}
use lib.ListN.{get_or-append, drop, get_or, length, length-append, take}
use lib.Seq.{drop-drop, get_or_at, length-sets, sets, take-add}
use Rattle.deck.specs.Calls as deck
use Rattle.deck.proofs.Demand3.{demand-3, opens}
use Rattle.laws.proofs.Cases.{both, each}
use Rattle.little.specs.Little.{bytes}
use Rattle.little.proofs.LittleLaws.{drop-later, sets-after, sets-before, sets-there}
use Rattle.register_log.specs.Log.{Layout, edition1, entry_in, entry_of, entry_place, handed, most_entries, writes_of}
use Rattle.register_log.specs.Encoder.{entries_bytes, entry_bytes, header_bytes, log_of}
use Rattle.register_log.specs.declared.Write.{Write}
use Rattle.register_log.proofs.AcceptedLaws.{Accepted}
use Rattle.register_log.proofs.EncoderLaws.{Sound, accepts, entries-append, entries-back, entry_length, header-length, laid-1, log-passes, log-sound, writes-back}
use Rattle.refusal.specs.Refusal.{fault, Answer}
use Rattle.refusal.specs.declared.Refusal.TheVariants.{Room, LogCount, CycleEarlier, LengthShort}
use Rattle.refusal.proofs.RefusalLaws.{passed, was-sound}
use Rattle.vsu.specs.Core.{all_at_most}
use Rattle.recorder.specs.Recorder.{add_answer, finish_answer, gives_by, none, start_answer}
use Rattle.recorder.specs.declared.Recorder.{Recorder}
use Rattle.recording.specs.Recording.{Added, AllTyped, Call, Finished, NoStart, Recorded, Tape, Typed, adds, adds_all, adds_by, after, after_all, answer_at, answer_of, gives, kept, last_due, nothing}
use Rattle.recording.specs.Recording.Call.{start, add, finish}
use Rattle.std.specs.Prelude.{Ok, Err}

-- lists that grow at their end

abbrev pub blank : Write
blank = record { due = 0; address = 0; byte = 0 }

-- the write at a place
abbrev pub nth : List Write → ℕ → Write
nth ws i = get_or ws i blank

module _ (ws : List Write) (w : Write) where
  abbrev longer : List Write
  longer = ws ++ (w ∷ [])

  longer-length : length longer ≡ suc (length ws)
  longer-length = length-append ws (w ∷ []) ∙ omega arith

  nth-old : (i : ℕ) → i < length ws → nth longer i ≡ nth ws i
  nth-old i h = get_or-append ws (w ∷ []) blank i h

  nth-new : nth longer (length ws) ≡ w
  nth-new = get_or_at ws w [] blank (length ws) refl

  -- what is so of all the old ones and of the new one
  all-longer : (P : Write → Type 0) → ((i : ℕ) → i < length ws → P (nth ws i)) → P w → (i : ℕ) → i < length longer → P (nth longer i)
  all-longer P old new i h = go (ℕ_discrete i (length ws))
    where
      go : Dec (i ≡ length ws) → P (nth longer i)
      go (yes e) = subst (λ (j : ℕ). P (nth longer j)) (sym e) (subst P (sym nth-new) new)
      go (no d) = let g : i < length ws = omega (arith, longer-length, d) in subst P (sym (nth-old i g)) (old i g)

last-longer : (ws : List Write) (w : Write) → last_due (ws ++ (w ∷ [])) ≡ w.due
unfolding last_due
last-longer [] w = refl
last-longer (v ∷ []) w = refl
last-longer (v ∷ x ∷ ws) w = last-longer (x ∷ ws) w

-- the answer that a call hands out is its order's
told : (a : Answer) (r q : Recorder) (b c : List ℕ) → (gives_by a r b q c).turn.answer ≡ a
unfolding gives_by
told (Ok done) r q b c = refl
told (Err why) r q b c = refl

-- a log's bytes are bytes

small-append : (most : ℕ) (xs ys : List ℕ) → all_at_most most xs ≡ true → all_at_most most ys ≡ true → all_at_most most (xs ++ ys) ≡ true
unfolding all_at_most
small-append most [] ys p q = q
small-append most (x ∷ xs) ys p q =
    each (leb x most) (all_at_most most xs ∷ []) p (λ k. both k.0 (small-append most xs ys k.1.0 q))

small_bytes : (w v : ℕ) → all_at_most 255 (bytes w v) ≡ true
unfolding bytes all_at_most
small_bytes zero v = refl
small_bytes (suc w) v = both (le-leb (v % 256) 255 (omega arith)) (small_bytes w (v / 256))

module _ (l : Layout) where
  small-entry : (w : Write) → w.byte < 256 → all_at_most 255 (entry_bytes l w) ≡ true
  unfolding entry_bytes all_at_most
  small-entry w h =
      small-append 255 (bytes l.due w.due) (bytes 2 w.address ++ (w.byte ∷ 0 ∷ [])) (small_bytes l.due w.due)
      (small-append 255 (bytes 2 w.address) (w.byte ∷ 0 ∷ []) (small_bytes 2 w.address) (both (le-leb w.byte 255 (omega (arith, h))) refl))

  small-entries : (ws : List Write) → ((i : ℕ) → i < length ws → (nth ws i).byte < 256) → all_at_most 255 (entries_bytes l ws) ≡ true
  unfolding entries_bytes all_at_most
  small-entries [] h = refl
  small-entries (w ∷ ws) h =
      small-append 255 (entry_bytes l w) (entries_bytes l ws) (small-entry w (h 0 (omega arith))) (small-entries ws (λ i g. h (suc i) (omega arith)))

  pub small-log : (ws : List Write) (k : ℕ) → ((i : ℕ) → i < length ws → (nth ws i).byte < 256) → all_at_most 255 (log_of l ws k) ≡ true
  unfolding log_of header_bytes
  small-log ws k h =
      small-append 255 (header_bytes l (length ws) k) (entries_bytes l ws)
      (small-append 255 (bytes 2 l.edition) _ (small_bytes 2 l.edition)
      (small-append 255 (bytes 2 l.header) _ (small_bytes 2 l.header)
      (small-append 255 (bytes 4 (length ws)) _ (small_bytes 4 (length ws))
      (small-append 255 (bytes 4 l.header) _ (small_bytes 4 l.header) (small_bytes l.due k)))))
      (small-entries ws h)

-- What the calls keep.

module _ (b : List ℕ) where
  pub record Holds (t : Tape) (m : Added) : Type 0 where
    pub entries : t.recorder.entries ≡ length m.writes
    pub last : t.recorder.last ≡ last_due m.writes
    pub sized : length t.buffer ≡ length b
    pub most : length m.writes ≤ most_entries
    pub typed : (i : ℕ) → i < length m.writes → Typed (add (nth m.writes i))
    pub low : (i : ℕ) → i < length m.writes → (nth m.writes i).due ≤ last_due m.writes
    pub rises : (i : ℕ) → suc i < length m.writes → (nth m.writes i).due ≤ (nth m.writes (suc i)).due
    pub held : take (8 * length m.writes) (drop 16 t.buffer) ≡ entries_bytes edition1 m.writes
    pub within : entry_place edition1 (length m.writes) ≤ m.longest
    pub spared : drop m.longest t.buffer ≡ drop m.longest b

  -- no writes, and a buffer that is as it was
  nothing-held : (t : Tape) (m : Added) → length t.buffer ≡ length b → edition1.header ≤ m.longest → drop m.longest t.buffer ≡ drop m.longest b → Holds (record { recorder = none; buffer = t.buffer }) (record { writes = []; longest = m.longest })
  unfolding entries_bytes last_due
  nothing-held t m s g p =
      record {
        entries = refl;
        last = refl;
        sized = s;
        most = omega arith;
        typed = λ i h. absurd (omega (arith, h));
        low = λ i h. absurd (omega (arith, h));
        rises = λ i h. absurd (omega (arith, h));
        held = refl;
        within = g;
        spared = p;
      }

  -- Where the tape holds what was added.

  module _ (t : Tape) (m : Added) (h : Holds t m) where
    abbrev ws : List Write
    ws = m.writes

    earlier-row : (cycle : ℕ) (vs : List Write) → (not (eqb (length vs) 0) && ltb cycle (last_due vs)) ≡ ltb cycle (last_due vs)
    unfolding last_due
    earlier-row cycle [] = sym (le-ltb cycle 0 (omega arith))
    earlier-row cycle (v ∷ vs) = rw (ne_eqb (length (v ∷ vs)) 0 (omega arith))

    -- a call's order of refusals, by the record
    abbrev order : Call → Answer
    order start = start_answer edition1 (length t.buffer)
    order (add w) = add_answer edition1 t.recorder w.due (length t.buffer)
    order (finish cycles) = finish_answer edition1 t.recorder cycles (length t.buffer)

    orders : (c : Call) → order c ≡ answer_at (length b) c ws
    unfolding answer_at start_answer add_answer finish_answer
    orders start = rw h.sized
    orders (add w) = rw (h.sized, h.entries, h.last, earlier-row w.due ws)
    orders (finish cycles) = rw (h.sized, h.entries, h.last)

    answers : (c : Call) → answer_of c t ≡ answer_at (length b) c ws
    unfolding gives
    answers start = told (order start) _ _ _ _ ∙ orders start
    answers (add w) = told (order (add w)) _ _ _ _ ∙ orders (add w)
    answers (finish cycles) = told (order (finish cycles)) _ _ _ _ ∙ orders (finish cycles)

    -- Start: accepted or not, it gives a record without entries.

    start-by : (a : Answer) → Holds (kept (gives_by a none t.buffer none t.buffer)) (adds_by a start m)
    unfolding gives_by adds_by adds
    start-by (Ok done) = nothing-held t m h.sized (omega (arith, h.within)) h.spared
    start-by (Err why) = nothing-held t m h.sized (omega (arith, h.within)) h.spared

    -- Add.

    module _ (w : Write) (typed : Typed (add w)) where
      abbrev place : ℕ
      place = 16 + 8 * length ws

      abbrev written : List ℕ
      written = sets t.buffer place (entry_bytes edition1 w)

      record Passed : Type 0 where
        pub later : last_due ws ≤ w.due
        pub count : length ws < most_entries
        pub room : 16 + 8 * suc (length ws) ≤ length b

      add-passed : answer_at (length b) (add w) ws ≡ Ok tt → Passed
      unfolding answer_at
      add-passed e =
          let p = passed (ltb w.due (last_due ws)) CycleEarlier e in
          let q = passed (leb most_entries (length ws)) LogCount p.1 in
          record {
            later = ltb-false _ _ p.0;
            count = leb-false _ _ q.0;
            room = ltb-false _ _ (was-sound _ Room q.1);
          }

      module _ (g : Passed) where
        held_more : take (8 * length (longer ws w)) (drop 16 written) ≡ entries_bytes edition1 (longer ws w)
        held_more =
            let n : 8 * length (longer ws w) ≡ 8 * length ws + 8 = omega (arith, longer-length ws w) in
            rw n
            (take-add (8 * length ws) 8 (drop 16 written)
            ∙ ap (λ (r : List ℕ). r ++ take 8 (drop (8 * length ws) (drop 16 written))) (sets-before t.buffer 16 (8 * length ws) place (entry_bytes edition1 w) (omega arith) ∙ h.held)
            ∙ ap (λ (r : List ℕ). entries_bytes edition1 ws ++ r) (ap (take 8) (drop-drop (8 * length ws) 16 written) ∙ sets-there t.buffer place 8 (entry_bytes edition1 w) (entry_length edition1 w) (omega (arith, h.sized, g.room)))
            ∙ sym (entries-append edition1 ws w))

        rises-more : (i : ℕ) → suc i < length (longer ws w) → (nth (longer ws w) i).due ≤ (nth (longer ws w) (suc i)).due
        rises-more i l = go (ℕ_discrete (suc i) (length ws))
          where
            old : i < length ws
            old = omega (arith, l, longer-length ws w)

            go : Dec (suc i ≡ length ws) → (nth (longer ws w) i).due ≤ (nth (longer ws w) (suc i)).due
            go (yes e) = rw (e, nth-old ws w i old, nth-new ws w) (le_trans (h.low i old) g.later)
            go (no d) = let k : suc i < length ws = omega (arith, l, longer-length ws w, d) in rw (nth-old ws w i old, nth-old ws w (suc i) k) (h.rises i k)

        add_holds : Holds (record { recorder = record { entries = suc (length ws); last = w.due }; buffer = written }) (adds (add w) m)
        unfolding adds
        add_holds =
            record {
              entries = sym (longer-length ws w);
              last = sym (last-longer ws w);
              sized = length-sets t.buffer place (entry_bytes edition1 w) ∙ h.sized;
              most = omega (arith, longer-length ws w, g.count);
              typed = all-longer ws w (λ (v : Write). Typed (add v)) h.typed typed;
              low = rw (last-longer ws w) (all-longer ws w (λ (v : Write). v.due ≤ w.due) (λ i l. le_trans (h.low i l) g.later) (le_refl _));
              rises = rises-more;
              held = held_more;
              within = omega (arith, longer-length ws w);
              spared =
                  sets-after t.buffer (max m.longest (16 + 8 * suc (length ws))) place (entry_bytes edition1 w) (omega (arith, entry_length edition1 w))
                  ∙ drop-later t.buffer b m.longest (max m.longest (16 + 8 * suc (length ws))) (omega arith) h.spared;
            }

      add-by : (a : Answer) → answer_at (length b) (add w) ws ≡ a → Holds (kept (gives_by a t.recorder t.buffer (record { entries = suc t.recorder.entries; last = w.due }) (sets t.buffer (entry_place edition1 t.recorder.entries) (entry_bytes edition1 w)))) (adds_by a (add w) m)
      unfolding gives_by adds_by
      add-by (Ok done) e = rw h.entries (add_holds (add-passed e))
      add-by (Err why) e = h

    -- Finish.

    module _ (cycles : ℕ) where
      abbrev headed : List ℕ
      headed = sets t.buffer 0 (header_bytes edition1 (length ws) cycles)

      -- the header is before the entries
      past-header : (i : ℕ) → 16 ≤ i → drop i headed ≡ drop i t.buffer
      past-header i l = sets-after t.buffer i 0 (header_bytes edition1 (length ws) cycles) (omega (arith, header-length edition1 (length ws) cycles, l))

      finish-holds : Holds (record { recorder = t.recorder; buffer = headed }) m
      finish-holds =
          record {
            entries = h.entries;
            last = h.last;
            sized = length-sets t.buffer 0 (header_bytes edition1 (length ws) cycles) ∙ h.sized;
            most = h.most;
            typed = h.typed;
            low = h.low;
            rises = h.rises;
            held = ap (take (8 * length ws)) (past-header 16 (omega arith)) ∙ h.held;
            within = h.within;
            spared = past-header m.longest (omega (arith, h.within)) ∙ h.spared;
          }

      finish-by : (a : Answer) → Holds (kept (gives_by a t.recorder t.buffer t.recorder (sets t.buffer 0 (header_bytes edition1 t.recorder.entries cycles)))) (adds_by a (finish cycles) m)
      unfolding gives_by adds_by adds
      finish-by (Ok done) = subst (λ (n : ℕ). Holds (record { recorder = t.recorder; buffer = sets t.buffer 0 (header_bytes edition1 n cycles) }) m) (sym h.entries) finish-holds
      finish-by (Err why) = h

    -- Every call keeps it.
    answered-holds : (c : Call) → Typed c → Holds (after c t) (adds_by (order c) c m)
    unfolding gives
    answered-holds start y = start-by (order start)
    answered-holds (add w) y = add-by w y (order (add w)) (sym (orders (add w)))
    answered-holds (finish cycles) y = finish-by cycles (order (finish cycles))

    pub step-holds : (c : Call) → Typed c → Holds (after c t) (adds_by (answer_at (length b) c ws) c m)
    step-holds c y = subst (λ (a : Answer). Holds (after c t) (adds_by a c m)) (orders c) (answered-holds c y)

    -- What an accepted finish leaves.

    module _ (cycles : ℕ) (typed : Typed (finish cycles)) (accepted : answer_at (length b) (finish cycles) ws ≡ Ok tt) where
      -- "18 for a length not above the last due cycle (any length will do with no entries)"
      above : not (eqb (length ws) 0) && leb cycles (last_due ws) ≡ false
      unfolding answer_at
      above = (passed (not (eqb (length ws) 0) && leb cycles (last_due ws)) LengthShort accepted).0

      fits : 16 + 8 * length ws ≤ length b
      unfolding answer_at
      fits =
          let p = passed (not (eqb (length ws) 0) && leb cycles (last_due ws)) LengthShort accepted in
          let q = passed (ltb most_entries (length ws)) LogCount p.1 in
          ltb-false _ _ (was-sound _ Room q.1)

      below : (i : ℕ) → i < length ws → (nth ws i).due < cycles
      below i l =
          let e : leb cycles (last_due ws) ≡ false = rw (ne_eqb (length ws) 0 (omega (arith, l))) at above in
          omega (arith, h.low i l, leb-false cycles (last_due ws) e)

      sound : Sound edition1 blank ws cycles
      sound =
          record {
            most = h.most;
            cycles = typed;
            fits = λ i l. record { due = (h.typed i l).0; address = (h.typed i l).1 };
            below = below;
            rises = h.rises;
          }

      abbrev log : List ℕ
      log = log_of edition1 ws cycles

      log-held : take (16 + 8 * length ws) (headed cycles) ≡ log
      unfolding log_of
      log-held =
          take-add 16 (8 * length ws) (headed cycles)
          ∙ ap (λ (r : List ℕ). r ++ take (8 * length ws) (drop 16 (headed cycles))) (sets-there t.buffer 0 16 (header_bytes edition1 (length ws) cycles) (header-length edition1 (length ws) cycles) (omega (arith, fits, h.sized)))
          ∙ ap (λ (r : List ℕ). header_bytes edition1 (length ws) cycles ++ r) (finish-holds cycles).held

      left : take (16 + 8 * length ws) (after (finish cycles) t).buffer ≡ log
      unfolding gives gives_by
      left = rw (orders (finish cycles) ∙ accepted, h.entries) log-held

      accepted-log : Accepted edition1 log (length ws) cycles
      accepted-log = log-sound laid-1 blank ws cycles sound

      small : all_at_most 255 log ≡ true
      small = small-log edition1 ws cycles (λ i l. (h.typed i l).2)

      reads : writes_of edition1 log ≡ ws
      reads = writes-back laid-1 blank ws cycles sound.fits (omega (arith, h.most))

      read-on : (i : ℕ) → entry_of edition1 log i ≡ handed ws i
      unfolding entry_in
      read-on i = rw (accepts accepted-log, entries-back laid-1 blank ws cycles sound.fits)

      plays : (memory : List ℕ) (cs : List deck.Call) → deck.InRun log ws cycles (length memory) (deck.after_all log cs (deck.opened memory)) (deck.named_all ws cycles (length memory) cs deck.at_start)
      plays memory cs =
          subst (λ (vs : List Write). deck.InRun log vs cycles (length memory) (deck.after_all log cs (deck.opened memory)) (deck.named_all vs cycles (length memory) cs deck.at_start)) reads
          (subst (λ (k : ℕ). deck.InRun log (writes_of edition1 log) k (length memory) (deck.after_all log cs (deck.opened memory)) (deck.named_all (writes_of edition1 log) k (length memory) cs deck.at_start)) accepted-log.cycles
          (demand-3 log small (log-passes accepted-log) memory cs))

      of-log : Finished log ws cycles
      of-log =
          record {
            bytes = refl;
            opens = opens log small (log-passes accepted-log);
            told = accepts accepted-log;
            writes = reads;
            entry = read-on;
            plays = plays;
          }

      finished : Finished (take (16 + 8 * length ws) (after (finish cycles) t).buffer) ws cycles
      finished = subst (λ (x : List ℕ). Finished x ws cycles) (sym left) of-log

    pub held-recorded : Recorded b t m
    held-recorded =
        record {
          entries = h.entries;
          last = h.last;
          answers = answers;
          spared = h.spared;
          finishes = finished;
        }

  all_hold : (cs : List Call) → AllTyped cs → (t : Tape) (m : Added) → Holds t m → Holds (after_all cs t) (adds_all (length b) cs m)
  unfolding after_all adds_all
  all_hold [] y t m h = h
  all_hold (c ∷ cs) y t m h = all_hold cs y.1 (after c t) (adds_by (answer_at (length b) c m.writes) c m) (step-holds t m h c y.0)

pub begun : (t : Tape) (a : Answer) → Holds t.buffer (kept (gives_by a none t.buffer none t.buffer)) nothing
unfolding gives_by
begun t (Ok done) = nothing-held t.buffer t nothing refl (omega arith) refl
begun t (Err why) = nothing-held t.buffer t nothing refl (omega arith) refl

-- The recording, whatever record and buffer there were before its first start.
pub recording : (t : Tape) (cs : List Call) → AllTyped cs → Recorded t.buffer (after_all cs (after start t)) (adds_all (length t.buffer) cs nothing)
unfolding gives
recording t cs y =
    held-recorded t.buffer _ _ (all_hold t.buffer cs y (after start t) nothing (begun t (start_answer edition1 (length t.buffer))))

-- "Nothing beyond the log's bytes is written": from one start to the next the longest log is the one at hand.

module _ (room : ℕ) where
  abbrev AtHand : Added → Type 0
  AtHand m = m.longest ≡ entry_place edition1 (length m.writes)

  add-at-hand : (w : Write) (m : Added) (a : Answer) → AtHand m → AtHand (adds_by a (add w) m)
  unfolding adds_by adds
  add-at-hand w m (Ok done) e = omega (arith, e, longer-length m.writes w)
  add-at-hand w m (Err why) e = e

  finish-at-hand : (cycles : ℕ) (m : Added) (a : Answer) → AtHand m → AtHand (adds_by a (finish cycles) m)
  unfolding adds_by adds
  finish-at-hand cycles m (Ok done) e = e
  finish-at-hand cycles m (Err why) e = e

  at-hand : (cs : List Call) → NoStart cs → (m : Added) → AtHand m → AtHand (adds_all room cs m)
  unfolding adds_all
  at-hand [] y m e = e
  at-hand (start ∷ cs) y m e = absurd y
  at-hand (add w ∷ cs) y m e = at-hand cs y _ (add-at-hand w m (answer_at room (add w) m.writes) e)
  at-hand (finish cycles ∷ cs) y m e = at-hand cs y _ (finish-at-hand cycles m (answer_at room (finish cycles) m.writes) e)

pub only-the-log : (t : Tape) (cs : List Call) → AllTyped cs → NoStart cs → drop (entry_place edition1 (length (adds_all (length t.buffer) cs nothing).writes)) (after_all cs (after start t)).buffer ≡ drop (entry_place edition1 (length (adds_all (length t.buffer) cs nothing).writes)) t.buffer
only-the-log t cs y n = rw (at-hand (length t.buffer) cs n nothing refl) at (recording t cs y).spared

-- Worked: into 32 bytes, which hold two entries. The second add falls (17), the fourth has no room (2), the first finish is not above
-- the last due cycle (18).
abbrev turned : ℕ → ℕ → Call
turned due byte = add (record { due = due; address = 1024; byte = byte })

worked : (adds_all 32 (turned 5 128 ∷ turned 4 0 ∷ turned 5 129 ∷ turned 9 0 ∷ finish 5 ∷ finish 6 ∷ []) nothing).writes ≡ (record { due = 5; address = 1024; byte = 128 } ∷ record { due = 5; address = 1024; byte = 129 } ∷ [])
unfolding adds_all adds_by adds answer_at last_due fault Rattle.refusal.specs.Refusal.◌then◌
worked = refl

finish-worked : (answer_at 32 (finish 5) (record { due = 5; address = 1024; byte = 128 } ∷ []) ≡ Err LengthShort) × (answer_at 32 (finish 0) [] ≡ Ok tt)
unfolding answer_at last_due fault Rattle.refusal.specs.Refusal.◌then◌
finish-worked = (refl, refl)
