-- A run through a log's writes: past a write, past cycles with none; and what the loops of `skip_to` and `run_to` hold.
use Rattle.std.specs.Prelude.{◌≡◌, ℕ, zero, suc, ◌+◌, ◌-◌, ◌*◌, ◌<◌, ◌≤◌, Bool, true, false, cond, ◌&&◌, ltb, List, [], ◌∷◌, ◌++◌, length, min, take, drop, ℤ, Ok}
use mathlib.Core.Path.{refl, sym, ap, ap₂, ◌∙◌}
use mathlib.Core.List.{append_assoc, append-nil}
use native.Mathlib.Nat.{add-zero, zero-add, le_trans, le_refl}
use native.Mathlib.Numerals.{add-one}
use native.Mathlib.Omega.{arith}
use borrow.Author.Tests.{lt-ltb, le-ltb, ne_eqb, ltb-true, ltb-false}
use lib.ListN.{length-append, length-drop, drop_of_length-le}
use lib.Seq.{drop_at, drop-cons, drop-drop, take_all, take_at}
use Rattle.laws.proofs.Cases.{each, ways}
use Rattle.register_log.proofs.AcceptedLaws.{Accepted, accepted, due-rises, writes_at, writes-length}
use Rattle.register_log.specs.Log.{due_at, due_before, edition1, write_at, writes_from}
use Rattle.register_log.specs.declared.Write.{Write}
use Rattle.vsu.proofs.RangeLaws.{range-facts, run-keeps, write_keeps}
use Rattle.vsu.proofs.CoreLaws.{advance-gives, run-gives, write-gives}
use Rattle.vsu.proofs.RunLaws.{frames-length, front_length, sides-append, sides-length}
use Rattle.vsu.specs.Core.{RunGives, advance_of, cycle, frames, frames_due, in_range, made, run, run_of, says, sides, write, write_of, Moved, Written}
use Rattle.vsu.specs.declared.unit.Frame.{Frame}
use Rattle.vsu.specs.declared.unit.Said.{Said}
use Rattle.vsu.specs.declared.unit.Said.TheVariants as said
use Rattle.vsu.specs.declared.unit.Vsu.{Vsu}
use Rattle.deck.specs.Unbroken.{Moment, apply_at, counts_of, frames_on, how_many, in_all, is_held, is_none, is_taken, moments_at, moments_on, no_counts, run_on}
use Rattle.deck.specs.Player.{moved_on}
use Rattle.deck.specs.declared.Counts.{Counts}
use Rattle.deck.specs.declared.Player.{Player}
use Rattle.deck.proofs.UnbrokenLaws.{counts-append, due-most, frames-on-add, frames-on-length, frames-past, in_all_lem, moments-on-add, moments-on-length, moments-past, run-on-add, run_past}
use Rattle.player.specs.Walk.{counted_by, next_of, Walkable}

-- the due cycle that the code's walk goes by

pub record Next (b : List ℕ) (count k target due : ℕ) : Type 0 where
  pub most : due ≤ target
  pub none : k < count → due ≤ due_at edition1 b k
  pub some : due < target → (k < count) × (due ≡ due_at edition1 b k)

module _ (b : List ℕ) (count k target : ℕ) where
  pub next-least : k < count → {due least : ℕ} → due ≡ due_at edition1 b k → least ≡ min due target → least ≡ next_of b count k target
  unfolding next_of
  next-least h {due} d e = rw (e, ← d, lt-ltb k count h) (go (ltb due target) refl)
    where
      go : (t : Bool) → ltb due target ≡ t → min due target ≡ cond t due target
      go true t = let l = ltb-true due target t in omega (arith, l)
      go false t = let l = ltb-false due target t in omega (arith, l)

  pub next-ended : count ≤ k → target ≡ next_of b count k target
  unfolding next_of
  next-ended h = rw (le-ltb k count h)

  next-is : Next b count k target (next_of b count k target)
  unfolding next_of
  next-is =
      ways (Next b count k target) (ltb k count && ltb (due_at edition1 b k) target)
      (λ t.
      each (ltb k count) (ltb (due_at edition1 b k) target ∷ []) t
      (λ e.
      record {
        most = omega (arith, ltb-true (due_at edition1 b k) target e.1.0);
        none = λ h. le_refl _;
        some = λ h. (ltb-true _ _ e.0, refl);
      }))
      (λ f.
      record {
        most = le_refl _;
        none = λ h. ltb-false _ _ (rw (lt-ltb k count h) at f);
        some = λ h. absurd (omega arith);
      })

  pub next-facts : {due : ℕ} → due ≡ next_of b count k target → Next b count k target due
  next-facts e = rw e next-is

-- writes due at a cycle or later, and in order

abbrev pub Later : ℕ → List Write → Type 0
Later c [] = Unit
Later c (w ∷ ws) = (c ≤ w.due) × Later c ws

abbrev pub Rising : List Write → Type 0
Rising [] = Unit
Rising (w ∷ ws) = Later w.due ws × Rising ws

later-le : (ws : List Write) {c d : ℕ} → d ≤ c → Later c ws → Later d ws
later-le [] h l = tt
later-le (w ∷ ws) h l = (le_trans h l.0, later-le ws h l.1)

module _ {b : List ℕ} {n cycles : ℕ} (a : Accepted edition1 b n cycles) where
  later-from : (m i c : ℕ) → i + m ≤ n → (0 < m → c ≤ due_at edition1 b i) → Later c (writes_from edition1 b m i)
  unfolding writes_from write_at
  later-from zero i c h g = tt
  later-from (suc m) i c h g =
      (g (omega arith), later-from m (suc i) c (omega arith) (λ p. le_trans (g (omega arith)) (due-rises a i (omega arith))))

  pub rising-from : (m i : ℕ) → i + m ≤ n → Rising (writes_from edition1 b m i)
  unfolding writes_from write_at
  rising-from zero i h = tt
  rising-from (suc m) i h =
      (later-from m (suc i) (due_at edition1 b i) (omega arith) (λ p. due-rises a i (omega arith)), rising-from m (suc i) (omega arith))

rising-drop : (k : ℕ) (ws : List Write) → Rising ws → Rising (drop k ws)
rising-drop zero ws r = r
rising-drop (suc k) [] r = tt
rising-drop (suc k) (w ∷ ws) r = rising-drop k ws r.1

none-due : (ws : List Write) (c : ℕ) → Later c ws → due_before ws c ≡ 0
unfolding due_before
none-due [] c l = refl
none-due (w ∷ ws) c l = rw (le-ltb w.due c l.0, none-due ws c l.1)

-- the first k writes are those due before c

record Standing (ws : List Write) (c k : ℕ) : Type 0 where
  pub known : k ≤ length ws
  pub later : Later c (drop k ws)
  pub apply : (t : ℕ) (u : Vsu) → c ≤ t → apply_at ws t u ≡ apply_at (drop k ws) t u
  pub meet : (t : ℕ) (u : Vsu) → c ≤ t → moments_at ws t u ≡ moments_at (drop k ws) t u
  pub count : (t : ℕ) → c ≤ t → due_before ws t ≡ k + due_before (drop k ws) t

one_more : (w : Write) (ws : List Write) (c k : ℕ) → w.due < c → Standing ws c k → Standing (w ∷ ws) c (suc k)
unfolding apply_at due_before moments_at
one_more w ws c k h s =
    record {
      known = omega (arith, s.known);
      later = s.later;
      apply = λ t u l. rw (ne_eqb w.due t (omega arith)) (s.apply t u l);
      meet = λ t u l. rw (ne_eqb w.due t (omega arith)) (s.meet t u l);
      count = λ t l. rw (lt-ltb w.due t (omega arith)) (omega (arith, s.count t l));
    }

all-later : (ws : List Write) (c : ℕ) → Later c ws → Standing ws c 0
all-later ws c l = record { known = omega arith; later = l; apply = λ t u h. refl; meet = λ t u h. refl; count = λ t h. omega arith }

standing : (ws : List Write) (c : ℕ) → Rising ws → Standing ws c (due_before ws c)
unfolding due_before
standing [] c r = all-later [] c tt
standing (w ∷ ws) c r =
    ways (λ (x : ℕ). Standing (w ∷ ws) c (x + due_before ws c)) (ltb w.due c)
    (λ t.
    let e : 1 + due_before ws c ≡ suc (due_before ws c) = omega arith in
    rw e (one_more w ws c (due_before ws c) (ltb-true _ _ t) (standing ws c r.1)))
    (λ f.
    let g : c ≤ w.due = ltb-false _ _ f in
    rw (none-due ws c (later-le ws g r.0)) (all-later (w ∷ ws) c (g, later-le ws g r.0)))

module _ (ws vs : List Write) (c : ℕ) (h : (t : ℕ) (u : Vsu) → c ≤ t → apply_at ws t u ≡ apply_at vs t u) (u : Vsu) where
  run-same : (n : ℕ) → run_on ws c u n ≡ run_on vs c u n
  unfolding run_on
  run-same zero = refl
  run-same (suc n) = ap cycle (h (c + n) (run_on ws c u n) (omega arith) ∙ ap (apply_at vs (c + n)) (run-same n))

  frames-same : (n : ℕ) → frames_on ws c u n ≡ frames_on vs c u n
  unfolding frames_on
  frames-same zero = refl
  frames-same (suc n) =
      ap₂ (λ (fs : List Frame) (v : Vsu). fs ++ made v) (frames-same n)
      (h (c + n) (run_on ws c u n) (omega arith) ∙ ap (apply_at vs (c + n)) (run-same n))

  moments-same : ((t : ℕ) (v : Vsu) → c ≤ t → moments_at ws t v ≡ moments_at vs t v) → (n : ℕ) → moments_on ws c u n ≡ moments_on vs c u n
  unfolding moments_on
  moments-same g zero = refl
  moments-same g (suc n) =
      ap₂ (λ (ms : List Moment) (ns : List Moment). ms ++ ns) (moments-same g n)
      (g (c + n) (run_on ws c u n) (omega arith) ∙ ap (moments_at vs (c + n)) (run-same n))

-- cycles at which nothing is due

apply-quiet : (ws : List Write) (t : ℕ) (u : Vsu) → Later (suc t) ws → apply_at ws t u ≡ u
unfolding apply_at
apply-quiet [] t u l = refl
apply-quiet (w ∷ ws) t u l = rw (ne_eqb w.due t (λ e. omega (arith, l.0))) (apply-quiet ws t u l.1)

meet-quiet : (ws : List Write) (t : ℕ) (u : Vsu) → Later (suc t) ws → moments_at ws t u ≡ []
unfolding moments_at
meet-quiet [] t u l = refl
meet-quiet (w ∷ ws) t u l = rw (ne_eqb w.due t (λ e. omega (arith, l.0))) (meet-quiet ws t u l.1)

module _ (ws : List Write) (c : ℕ) (u : Vsu) where
  pub run-quiet : (n : ℕ) → Later (c + n) ws → run_on ws c u n ≡ run n u
  unfolding run_on run
  run-quiet zero l = refl
  run-quiet (suc n) l =
      ap cycle (apply-quiet ws (c + n) (run_on ws c u n) (later-le ws (omega arith) l) ∙ run-quiet n (later-le ws (omega arith) l))

  pub frames-quiet : (n : ℕ) → Later (c + n) ws → frames_on ws c u n ≡ frames n u
  unfolding frames_on frames
  frames-quiet zero l = refl
  frames-quiet (suc n) l =
      ap₂ (λ (fs : List Frame) (v : Vsu). fs ++ made v) (frames-quiet n (later-le ws (omega arith) l))
      (apply-quiet ws (c + n) (run_on ws c u n) (later-le ws (omega arith) l) ∙ run-quiet n (later-le ws (omega arith) l))

  pub moments-quiet : (n : ℕ) → Later (c + n) ws → moments_on ws c u n ≡ []
  unfolding moments_on
  moments-quiet zero l = refl
  moments-quiet (suc n) l =
      ap₂ (λ (ms : List Moment) (ns : List Moment). ms ++ ns) (moments-quiet n (later-le ws (omega arith) l))
      (meet-quiet ws (c + n) (run_on ws c u n) (later-le ws (omega arith) l))

-- one more of its sort

one_each : {a b c x y z : ℕ} → x ≡ a → y ≡ b → z ≡ c → ◌≡◌ {A = Counts} (record { taken = a; held = b; none = c }) (record { taken = x; held = y; none = z })
one_each e f g = rw (e, f, g)

counted-more : (ms : List Moment) (m : Moment) → counted_by (counts_of ms) (says m.entry.address m.unit) ≡ counts_of (ms ++ m ∷ [])
unfolding counted_by how_many
counted-more ms m = rw (counts-append is_taken ms (m ∷ []), counts-append is_held ms (m ∷ []), counts-append is_none ms (m ∷ [])) (go (says m.entry.address m.unit))
  where
    go : (s : Said) → ◌≡◌ {A = Counts} (counted_by (counts_of ms) s) (record { taken = how_many is_taken ms + (cond (is_taken s) 1 0 + 0); held = how_many is_held ms + (cond (is_held s) 1 0 + 0); none = how_many is_none ms + (cond (is_none s) 1 0 + 0) })
    go said.Taken = one_each refl (add-zero _) (add-zero _)
    go said.Held = one_each (add-zero _) refl (add-zero _)
    go said.NoRegister = one_each (add-zero _) (add-zero _) refl

-- What the loop of `skip_to` holds: of the writes, the first k have been applied, and the rest is ahead.

module _ (ws : List Write) (u : Vsu) (start target : ℕ) where
  pub record Walking (unit : Vsu) (k cycle : ℕ) : Type 0 where
    pub within : cycle ≤ target
    pub known : k ≤ length ws
    pub ranged : in_range unit ≡ true
    pub ahead : Later cycle (drop k ws)
    pub count : due_before ws target ≡ k + due_before (drop k ws) target
    pub same : run_on ws start u (target - start) ≡ run_on (drop k ws) cycle unit (target - cycle)

  pub walk-starts : {applied : ℕ} → Rising ws → in_range u ≡ true → applied ≡ due_before ws start → start ≤ target → Walking u applied start
  walk-starts {applied} r h e l =
      let s : Standing ws start applied = rw e (standing ws start r) in
      record {
        within = l;
        known = s.known;
        ranged = h;
        ahead = s.later;
        count = s.count target l;
        same = run-same ws (drop applied ws) start s.apply u (target - start);
      }

  pub walk_ends : {unit : Vsu} {k cycle : ℕ} → Walking unit k cycle → target ≤ cycle → (unit ≡ run_on ws start u (target - start)) × (k ≡ due_before ws target)
  unfolding run_on
  walk_ends {unit} {k} {cycle} h l =
      let e : target - cycle ≡ 0 = omega arith in
      let f : cycle ≡ target = omega arith in
      (sym (h.same ∙ ap (run_on (drop k ws) cycle unit) e), omega (arith, h.count, none-due (drop k ws) target (rw f at h.ahead)))

  -- the next write is due now

  pub record Entry (k cycle : ℕ) (w : Write) : Type 0 where
    pub before : cycle < target
    pub known : k < length ws
    pub next : drop k ws ≡ w ∷ drop (k + 1) ws
    pub now : w.due ≡ cycle
    pub byte : w.byte < 256

  one-turn : {k cycle : ℕ} {w : Write} → Entry k cycle w → target - cycle ≡ suc (target - cycle - 1)
  one-turn n = omega (arith, n.before)

  pub walk-writes : {unit : Vsu} {k cycle : ℕ} {w : Write} → Walking unit k cycle → Entry k cycle w → Walking (write w.address w.byte unit) (k + 1) cycle
  unfolding due_before
  walk-writes {unit} {k} {cycle} {w} h n =
      let a : Later cycle (w ∷ drop (k + 1) ws) = rw n.next at h.ahead in
      record {
        within = h.within;
        known = omega (arith, n.known);
        ranged = write_keeps unit w.address w.byte n.byte h.ranged;
        ahead = a.1;
        count =
            h.count
            ∙ ap (λ (vs : List Write). k + due_before vs target) n.next
            ∙ rw (lt-ltb w.due target (omega (arith, n.now, n.before))) (omega arith);
        same =
            h.same
            ∙ ap₂ (λ (vs : List Write) (m : ℕ). run_on vs cycle unit m) n.next (one-turn n)
            ∙ run_past w (drop (k + 1) ws) cycle unit n.now (target - cycle - 1)
            ∙ ap (run_on (drop (k + 1) ws) cycle (write w.address w.byte unit)) (sym (one-turn n));
      }

  -- what the unit's call makes of it
  pub written-by : {unit : Vsu} {k cycle : ℕ} (w : Write) → Walking unit k cycle → {v : Vsu} → v ≡ (write_of w.address w.byte unit).state → v ≡ write w.address w.byte unit
  written-by {unit} w h e = e ∙ ap (λ (m : Written). m.state) (write-gives unit h.ranged w.address w.byte)

  -- nothing is due before the cycle `due`

  pub record Quiet (k cycle due : ℕ) : Type 0 where
    pub from : cycle ≤ due
    pub most : due ≤ target
    pub none : Later due (drop k ws)

  module _ {k cycle due : ℕ} (unit : Vsu) (q : Quiet k cycle due) where
    there : cycle + (due - cycle) ≡ due
    there = omega (arith, q.from)

    two-spans : target - cycle ≡ (due - cycle) + (target - due)
    two-spans = omega (arith, q.from, q.most)

    no_write : Later (cycle + (due - cycle)) (drop k ws)
    no_write = rw there q.none

    quiet-run : run_on (drop k ws) cycle unit (target - cycle) ≡ run_on (drop k ws) due (run (due - cycle) unit) (target - due)
    quiet-run =
        ap (run_on (drop k ws) cycle unit) two-spans
        ∙ run-on-add (drop k ws) cycle unit (due - cycle) (target - due)
        ∙ ap₂ (λ (t : ℕ) (v : Vsu). run_on (drop k ws) t v (target - due)) there (run-quiet (drop k ws) cycle unit (due - cycle) no_write)

    quiet-frames : frames_on (drop k ws) cycle unit (target - cycle) ≡ frames (due - cycle) unit ++ frames_on (drop k ws) due (run (due - cycle) unit) (target - due)
    quiet-frames =
        ap (frames_on (drop k ws) cycle unit) two-spans
        ∙ frames-on-add (drop k ws) cycle unit (due - cycle) (target - due)
        ∙ ap₂ (λ (fs : List Frame) (gs : List Frame). fs ++ gs) (frames-quiet (drop k ws) cycle unit (due - cycle) no_write)
        (ap₂ (λ (t : ℕ) (v : Vsu). frames_on (drop k ws) t v (target - due)) there (run-quiet (drop k ws) cycle unit (due - cycle) no_write))

    quiet-moments : moments_on (drop k ws) cycle unit (target - cycle) ≡ moments_on (drop k ws) due (run (due - cycle) unit) (target - due)
    quiet-moments =
        ap (moments_on (drop k ws) cycle unit) two-spans
        ∙ moments-on-add (drop k ws) cycle unit (due - cycle) (target - due)
        ∙ ap₂ (λ (ms : List Moment) (ns : List Moment). ms ++ ns) (moments-quiet (drop k ws) cycle unit (due - cycle) no_write)
        (ap₂ (λ (t : ℕ) (v : Vsu). moments_on (drop k ws) t v (target - due)) there (run-quiet (drop k ws) cycle unit (due - cycle) no_write))

    pub walk-runs : Walking unit k cycle → Walking (run (due - cycle) unit) k due
    walk-runs h =
        record {
          within = q.most;
          known = h.known;
          ranged = run-keeps (due - cycle) unit h.ranged;
          ahead = q.none;
          count = h.count;
          same = h.same ∙ quiet-run;
        }

  pub walk-advances : {unit : Vsu} {k cycle due : ℕ} → Walking unit k cycle → Quiet k cycle due → {v : Vsu} → v ≡ (advance_of (due - cycle) unit).state → Walking v k due
  walk-advances {unit} {k} {cycle} {due} h q e =
      let s = e ∙ ap (λ (m : Moved). m.state) (advance-gives unit h.ranged (due - cycle)) in rw s (walk-runs unit q h)

  -- What the loop of `run_to` holds besides: the frames that are done stand at the front of the buffer, and the entries that went in are
  -- counted by what they said.

  pub record Playing (before : List ℤ) (unit : Vsu) (k cycle : ℕ) (out : List ℤ) (at : ℕ) (counts : Counts) : Type 0 where
    pub walking : Walking unit k cycle
    pub done : List Frame
    pub front : at ≡ length (sides done)
    pub buffer : out ≡ sides done ++ drop at before
    pub whole : frames_on ws start u (target - start) ≡ done ++ frames_on (drop k ws) cycle unit (target - cycle)
    pub met : List Moment
    pub tally : counts ≡ counts_of met
    pub all : moments_on ws start u (target - start) ≡ met ++ moments_on (drop k ws) cycle unit (target - cycle)

  pub play-starts : {applied : ℕ} (before : List ℤ) → Rising ws → in_range u ≡ true → applied ≡ due_before ws start → start ≤ target → Playing before u applied start before 0 no_counts
  unfolding sides how_many
  play-starts {applied} before r h e l =
      let s : Standing ws start applied = rw e (standing ws start r) in
      record {
        walking = walk-starts r h e l;
        done = [];
        front = refl;
        buffer = refl;
        whole = frames-same ws (drop applied ws) start s.apply u (target - start);
        met = [];
        tally = refl;
        all = moments-same ws (drop applied ws) start s.apply u s.meet (target - start);
      }

  pub play-writes : {before : List ℤ} {unit : Vsu} {k cycle : ℕ} {out : List ℤ} {at : ℕ} {counts : Counts} {w : Write} → Playing before unit k cycle out at counts → Entry k cycle w →
      Playing before (write w.address w.byte unit) (k + 1) cycle out at (counted_by counts (says w.address unit))
  play-writes {before} {unit} {k} {cycle} {out} {at} {counts} {w} h n =
      record {
        walking = walk-writes h.walking n;
        done = h.done;
        front = h.front;
        buffer = h.buffer;
        whole =
            h.whole
            ∙ ap (λ (fs : List Frame). h.done ++ fs)
            (ap₂ (λ (vs : List Write) (m : ℕ). frames_on vs cycle unit m) n.next (one-turn n)
            ∙ frames-past w (drop (k + 1) ws) cycle unit n.now (target - cycle - 1)
            ∙ ap (frames_on (drop (k + 1) ws) cycle (write w.address w.byte unit)) (sym (one-turn n)));
        met = h.met ++ record { entry = w; unit = unit } ∷ [];
        tally = rw h.tally (counted-more h.met (record { entry = w; unit = unit }));
        all =
            h.all
            ∙ ap (λ (ms : List Moment). h.met ++ ms)
            (ap₂ (λ (vs : List Write) (m : ℕ). moments_on vs cycle unit m) n.next (one-turn n)
            ∙ moments-past w (drop (k + 1) ws) cycle unit n.now (target - cycle - 1)
            ∙ ap (λ (i : ℕ). record { entry = w; unit = unit } ∷ moments_on (drop (k + 1) ws) cycle (write w.address w.byte unit) i) (sym (one-turn n)))
            ∙ sym (append_assoc h.met (record { entry = w; unit = unit } ∷ []) _);
      }

  pub play-wrote : {before : List ℤ} {unit : Vsu} {k cycle : ℕ} {out : List ℤ} {at : ℕ} {counts : Counts} {w : Write} → Playing before unit k cycle out at counts → Entry k cycle w →
      {s : Said} → s ≡ says w.address unit → {more : Counts} → more ≡ counted_by counts s → {v : Vsu} → v ≡ (write_of w.address w.byte unit).state → Playing before v (k + 1) cycle out at more
  play-wrote {w = w} h n e f g = rw (f, e, written-by w h.walking g) (play-writes h n)

  -- no number of entries is too large to count: they are some of the log's
  pub play-few : {before : List ℤ} {unit : Vsu} {k cycle : ℕ} {out : List ℤ} {at : ℕ} {counts : Counts} → Playing before unit k cycle out at counts → in_all counts ≤ length ws
  play-few {unit = unit} {k = k} {cycle = cycle} h =
      rw h.tally
      (omega (
        arith,
        in_all_lem h.met,
        ap length h.all,
        length-append h.met (moments_on (drop k ws) cycle unit (target - cycle)),
        moments-on-length ws start u (target - start),
        due-most ws (start + (target - start)),
      ))

  module _ (ranged : in_range u ≡ true) (before : List ℤ) (room : frames_due u (target - start) * 2 ≤ length before) {unit : Vsu} {k cycle : ℕ} {out : List ℤ} {at : ℕ} {counts : Counts} (h : Playing before unit k cycle out at counts) where
    -- the frames still to come have room behind those that are done
    to-come : at + frames_due unit (target - cycle) * 2 ≡ frames_due u (target - start) * 2
    to-come =
        omega (
          arith,
          h.front,
          sides-length h.done,
          ap length h.whole,
          length-append h.done (frames_on (drop k ws) cycle unit (target - cycle)),
          frames-on-length ws start u (range-facts u ranged).output (target - start),
          frames-on-length (drop k ws) cycle unit (range-facts unit h.walking.ranged).output (target - cycle),
        )

    pub play-within : at ≤ length before
    play-within = omega (arith, to-come)

    pub play-long : length out ≡ length before
    play-long = front_length h.done before h.front play-within h.buffer

    pub play-ends : target ≤ cycle → out ≡ sides (frames_on ws start u (target - start)) ++ drop (frames_due u (target - start) * 2) before
    unfolding frames_on
    play-ends l =
        let e : target - cycle ≡ 0 = omega arith in
        let f : frames_on ws start u (target - start) ≡ h.done =
        h.whole ∙ ap (λ (n : ℕ). h.done ++ frames_on (drop k ws) cycle unit n) e ∙ append-nil h.done in
        let g : at ≡ frames_due u (target - start) * 2 =
        omega (arith, h.front, sides-length h.done, ap length f, frames-on-length ws start u (range-facts u ranged).output (target - start)) in
        h.buffer ∙ ap₂ (λ (fs : List Frame) (n : ℕ). sides fs ++ drop n before) (sym f) g

    pub play-counted : target ≤ cycle → counts ≡ counts_of (moments_on ws start u (target - start))
    unfolding moments_on
    play-counted l =
        let e : target - cycle ≡ 0 = omega arith in
        h.tally
        ∙ ap counts_of (sym (h.all ∙ ap (λ (n : ℕ). h.met ++ moments_on (drop k ws) cycle unit n) e ∙ append-nil h.met))

    -- so do those up to the cycle `due`
    pub play-more : {due : ℕ} → Quiet k cycle due → at + frames_due unit (due - cycle) * 2 ≤ length before
    play-more q = omega (arith, q.most, to-come)

    -- what `run` is lent is the buffer from `at` on, as it was

    behind : drop at out ≡ drop at before
    behind = ap (drop at) h.buffer ∙ drop_at (sides h.done) (drop at before) at (sym h.front)

    module _ {size : ℕ} (z : size ≡ length out - at) where
      lent : take size (drop at out) ≡ drop at before
      lent = ap (take size) behind ∙ take_all size (drop at before) (omega (arith, length-drop at before, play-long))

      none_left : drop size (drop at out) ≡ []
      none_left =
          ap (drop size) behind ∙ drop_of_length-le (drop at before) {i = size} (omega (arith, length-drop at before, play-long))

      -- a run up to the cycle `due`, before which nothing is due

      module _ {due : ℕ} (q : Quiet k cycle due) where
        abbrev given : RunGives
        given = run_of (due - cycle) unit (take size (drop at out))

        gives : given ≡ record { ran = record { state = run (due - cycle) unit; frames = frames_due unit (due - cycle); answer = Ok tt }; out = sides (frames (due - cycle) unit) ++ drop (frames_due unit (due - cycle) * 2) (take size (drop at out)) }
        gives =
            run-gives unit h.walking.ranged (due - cycle) (take size (drop at out))
            (omega (arith, q.most, to-come, ap length lent, length-drop at before))

        answered : {v : Vsu} → v ≡ given.ran.state → v ≡ run (due - cycle) unit
        answered e = e ∙ ap (λ (g : RunGives). g.ran.state) gives

        filled : {ys : List ℤ} → ys ≡ given.out → ys ≡ sides (frames (due - cycle) unit) ++ drop (frames_due unit (due - cycle) * 2) (drop at before)
        filled f =
            f
            ∙ ap (λ (g : RunGives). g.out) gives
            ∙ ap (λ (rest : List ℤ). sides (frames (due - cycle) unit) ++ drop (frames_due unit (due - cycle) * 2) rest) lent

        longer : {ys : List ℤ} {n : ℕ} → ys ≡ given.out → n ≡ frames_due unit (due - cycle) → take at out ++ (ys ++ drop size (drop at out)) ≡ sides (h.done ++ frames (due - cycle) unit) ++ drop (at + 2 * n) before
        longer {ys} {n} f e =
            let d : at + frames_due unit (due - cycle) * 2 ≡ at + 2 * n = omega arith in
            ap₂ (λ (xs : List ℤ) (zs : List ℤ). xs ++ zs)
            (ap (take at) h.buffer ∙ take_at (sides h.done) (drop at before) at (sym h.front))
            (ap₂ (λ (xs : List ℤ) (zs : List ℤ). xs ++ zs) (filled f) none_left ∙ append-nil _)
            ∙ sym (append_assoc (sides h.done) (sides (frames (due - cycle) unit)) _)
            ∙ ap₂ (λ (xs : List ℤ) (zs : List ℤ). xs ++ zs) (sym (sides-append h.done (frames (due - cycle) unit)))
            (drop-drop (frames_due unit (due - cycle) * 2) at before ∙ ap (λ (i : ℕ). drop i before) d)

        pub play-runs : {v : Vsu} → v ≡ given.ran.state → {ys : List ℤ} → ys ≡ given.out → {n : ℕ} → n ≡ frames_due unit (due - cycle) → Playing before v k due (take at out ++ (ys ++ drop size (drop at out))) (at + 2 * n) counts
        play-runs {v} e {ys} f {n} m =
            let a = answered e in
            record {
              walking = rw a (walk-runs unit q h.walking);
              done = h.done ++ frames (due - cycle) unit;
              front =
                  omega (
                    arith,
                    m,
                    h.front,
                    sides-length h.done,
                    sides-length (h.done ++ frames (due - cycle) unit),
                    length-append h.done (frames (due - cycle) unit),
                    frames-length unit (range-facts unit h.walking.ranged).output (due - cycle),
                  );
              buffer = longer f m;
              whole =
                  h.whole
                  ∙ ap (λ (gs : List Frame). h.done ++ gs) (quiet-frames unit q)
                  ∙ sym (append_assoc h.done (frames (due - cycle) unit) _)
                  ∙ ap (λ (v : Vsu). h.done ++ frames (due - cycle) unit ++ frames_on (drop k ws) due v (target - due)) (sym a);
              met = h.met;
              tally = h.tally;
              all =
                  h.all
                  ∙ ap (λ (ms : List Moment). h.met ++ ms) (quiet-moments unit q)
                  ∙ ap (λ (v : Vsu). h.met ++ moments_on (drop k ws) due v (target - due)) (sym a);
            }

-- The writes of an accepted log, and what the code reads of them.

module _ (b : List ℕ) (count : ℕ) where
  abbrev pub Log : List Write
  Log = writes_from edition1 b count 0

  rest-cons : (k : ℕ) → k < count → drop k Log ≡ write_at edition1 b k ∷ drop (k + 1) Log
  rest-cons k h =
      drop-cons Log k (write_at edition1 b k) (omega (arith, writes-length edition1 b count 0))
      ∙ ap₂ (λ (w : Write) (vs : List Write). w ∷ vs)
      (writes_at edition1 b count 0 k (write_at edition1 b k) h ∙ ap (write_at edition1 b) (zero-add k))
      (ap (λ (i : ℕ). drop i Log) (sym (add-one k)))

  rest-later : (k target due : ℕ) → Rising Log → Next b count k target due → Later due (drop k Log)
  unfolding write_at
  rest-later k target due r n = go (ltb k count) refl
    where
      go : (t : Bool) → ltb k count ≡ t → Later due (drop k Log)
      go true t =
          let h : k < count = ltb-true _ _ t in
          let s : Rising (write_at edition1 b k ∷ drop (k + 1) Log) = rw (rest-cons k h) at (rising-drop k Log r) in
          rw (rest-cons k h) (n.none h, later-le (drop (k + 1) Log) (n.none h) s.0)
      go false t =
          rw (drop_of_length-le Log {i = k} (omega (arith, writes-length edition1 b count 0, ltb-false k count t))) tt

  -- what the loops hold of the record q that they have made of p

  module _ (p : Player) (target : ℕ) where
    abbrev pub Skips : Player → Type 0
    Skips q = Walking Log p.unit p.cycle target q.unit q.applied q.cycle × (q.marks ≡ p.marks)

    pub skipped : {q : Player} → Skips q → p.cycle ≤ target → target ≤ q.cycle → q ≡ moved_on Log p (target - p.cycle)
    unfolding moved_on
    skipped {q} h a l =
        let e = walk_ends Log p.unit p.cycle target h.0 l in
        let c : p.cycle + (target - p.cycle) ≡ target = omega (arith, a) in
        let d : q.cycle ≡ target = omega (arith, l, h.0.within) in
        rw (c, ← e.0, ← e.1, ← h.1, ← d)

    module _ {q : Player} (h : Skips q) where
      pub skip-wrote : {w : Write} → Entry Log p.unit p.cycle target q.applied q.cycle w → {v : Vsu} → v ≡ (write_of w.address w.byte q.unit).state →
          Skips (record { unit = v; cycle = q.cycle; applied = q.applied + 1; marks = q.marks })
      skip-wrote {w} n e = (rw (written-by Log p.unit p.cycle target w h.0 e) (walk-writes Log p.unit p.cycle target h.0 n), h.1)

      pub skip-advanced : {due : ℕ} → Quiet Log p.unit p.cycle target q.applied q.cycle due → {v : Vsu} → v ≡ (advance_of (due - q.cycle) q.unit).state →
          Skips (record { unit = v; cycle = due; applied = q.applied; marks = q.marks })
      skip-advanced n e = (walk-advances Log p.unit p.cycle target h.0 n e, h.1)

    abbrev pub Plays : List ℤ → Player → List ℤ → ℕ → Counts → Type 0
    Plays before q out at counts = Playing Log p.unit p.cycle target before q.unit q.applied q.cycle out at counts × (q.marks ≡ p.marks)

    module _ {before : List ℤ} {q : Player} {out : List ℤ} {at : ℕ} {counts : Counts} (h : Plays before q out at counts) where
      pub skips : Skips q
      skips = (h.0.walking, h.1)

      pub plays-wrote : {w : Write} → Entry Log p.unit p.cycle target q.applied q.cycle w →
          {s : Said} → s ≡ says w.address q.unit → {more : Counts} → more ≡ counted_by counts s → {v : Vsu} → v ≡ (write_of w.address w.byte q.unit).state →
          Plays before (record { unit = v; cycle = q.cycle; applied = q.applied + 1; marks = q.marks }) out at more
      plays-wrote n e f g = (play-wrote Log p.unit p.cycle target h.0 n e f g, h.1)

      module _ (ranged : in_range p.unit ≡ true) (room : frames_due p.unit (target - p.cycle) * 2 ≤ length before) where
        -- the next run's frames have room
        pub plays-room : {due made : ℕ} → Quiet Log p.unit p.cycle target q.applied q.cycle due → made ≡ frames_due q.unit (due - q.cycle) →
            (at ≤ length out) × (length out ≡ length before) × (at + made * 2 ≤ length before)
        plays-room n e =
            let l = play-long Log p.unit p.cycle target ranged before room h.0 in
            (rw l (play-within Log p.unit p.cycle target ranged before room h.0), l, rw e (play-more Log p.unit p.cycle target ranged before room h.0 n))

        pub plays-ran : {due made : ℕ} → Quiet Log p.unit p.cycle target q.applied q.cycle due → made ≡ frames_due q.unit (due - q.cycle) →
            {size : ℕ} → size ≡ length out - at → {v : Vsu} → v ≡ (run_of (due - q.cycle) q.unit (take size (drop at out))).ran.state →
            {ys : List ℤ} → ys ≡ (run_of (due - q.cycle) q.unit (take size (drop at out))).out →
            Plays before (record { unit = v; cycle = due; applied = q.applied; marks = q.marks }) (take at out ++ (ys ++ drop size (drop at out))) (at + 2 * made) counts
        plays-ran n m z e f = (play-runs Log p.unit p.cycle target ranged before room h.0 z n e f m, h.1)

  module _ (p : Player) (target : ℕ) (a : Walkable b count p target) where
    rising : Rising Log
    rising = rising-from (accepted edition1 b count a.cycles a.accepted) count 0 (omega arith)

    pub log-walks : Skips p target p
    log-walks = (walk-starts Log p.unit p.cycle target rising a.ranged a.stands a.ahead, refl)

    pub log-plays : (before : List ℤ) {counts : Counts} → (counts.taken ≡ 0) × ((counts.held ≡ 0) × (counts.none ≡ 0)) → Plays p target before p before 0 counts
    log-plays before {counts} z =
        let none : counts ≡ no_counts = sym (one_each z.0 z.1.0 z.1.1) in
        rw none (play-starts Log p.unit p.cycle target before rising a.ranged a.stands a.ahead, refl)

    -- there is always room for one more
    pub log-counts : {before : List ℤ} {q : Player} {out : List ℤ} {at : ℕ} {counts : Counts} → Plays p target before q out at counts → in_all counts < 4294967295
    log-counts h =
        omega (arith, play-few Log p.unit p.cycle target h.0, writes-length edition1 b count 0, (accepted edition1 b count a.cycles a.accepted).most)

    module _ {q : Player} {due : ℕ} (h : Skips p target q) (e : due ≡ next_of b count q.applied target) where
      log-next : q.cycle < target → due ≤ q.cycle → (q.applied < count) × (due_at edition1 b q.applied ≡ q.cycle)
      unfolding write_at
      log-next l m =
          let s = (next-facts b count q.applied target e).some (omega arith) in
          let a : Later q.cycle (write_at edition1 b q.applied ∷ drop (q.applied + 1) Log) = rw (rest-cons q.applied s.0) at h.0.ahead in
          (s.0, omega (arith, s.1, a.0))

      pub log-left : q.cycle < target → due ≤ q.cycle → q.applied < count
      log-left l m = (log-next l m).0

      pub log-entry : q.cycle < target → due ≤ q.cycle → {w : Write} → w ≡ write_at edition1 b q.applied → w.byte < 256 → Entry Log p.unit p.cycle target q.applied q.cycle w
      unfolding write_at
      log-entry l m {w} f g =
          let s = log-next l m in
          record {
            before = l;
            known = omega (arith, writes-length edition1 b count 0, s.0);
            next = rw f (rest-cons q.applied s.0);
            now = ap (λ (w : Write). w.due) f ∙ s.1;
            byte = g;
          }

      pub log-quiet : q.cycle < due → Quiet Log p.unit p.cycle target q.applied q.cycle due
      log-quiet l =
          let n = next-facts b count q.applied target e in
          record { from = omega arith; most = n.most; none = rest-later q.applied target due rising n }
