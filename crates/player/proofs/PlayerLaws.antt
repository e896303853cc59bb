-- The calls, over plain variables: what the rows of an order come to, and what a call then leaves.
use Rattle.std.specs.Prelude.{◌≡◌, ℕ, ◌+◌, ◌-◌, ◌*◌, ◌/◌, ◌<◌, ◌≤◌, Bool, true, false, not, ◌||◌, ltb, List, [], ◌++◌, length, take, drop, ℤ, Result, Ok, Err}
use mathlib.Core.Path.{refl, sym, ap, ◌∙◌}
use mathlib.Core.Bool.{true≢false}
use mathlib.Core.List.{append-nil, append_assoc}
use native.Mathlib.Omega.{arith}
use borrow.Author.Tests.{le-leb, le-ltb, lt-leb, lt-ltb}
use borrow.Rule.Slice.PartMut.{mid_of, put_mid}
use lib.ListN.{length-drop, drop_of_length-le}
use lib.Seq.{drop-drop, length-sets, sets, sets-eq, take_all}
use Rattle.deck.proofs.PlayerLaws as deck
use Rattle.deck.proofs.UnbrokenLaws.{due-none}
use Rattle.deck.specs.Player.{Turn, applied_place, clear_answer, clear_of, ended, fresh, go_to_answer, go_to_of, image_place, in_slot, length_in, made_by, made_of, memory_size, misplaced, moved_on, mute_answer, mute_of, muted, open_of, play_answer, play_by, play_of, restarted, seek_answer, seek_of, set_answer, set_by, set_of, slot_applied, slot_cycle, slot_image, slot_of, slot_place, slot_size, sought_from, standing_answer, standing_of, turn_by, with_marks, writes_in}
use Rattle.deck.specs.Unbroken.{counts_of, frames_on, moments_on}
use Rattle.deck.specs.declared.Counts.{Counts}
use Rattle.deck.specs.declared.Played.{Played}
use Rattle.deck.specs.declared.Player.{Player}
use Rattle.little.proofs.LittleLaws.{bytes-length, sets-append}
use Rattle.little.specs.Little.{bytes, number}
use Rattle.register_log.proofs.AcceptedLaws as log
use Rattle.register_log.specs.Log.{check_of, checked_by, count_of, edition1, log_answer, log_with, writes_from, Checked}
use Rattle.register_log.specs.declared.Log.{Log}
use Rattle.image.proofs.RoundTrip.{image-420}
use Rattle.image.specs.Image.{image_of, read_answer, read_of, written_of}
use Rattle.image.proofs.CallLaws.{read_answer_lem, written}
use Rattle.table.specs.Table.{newest}
use Rattle.image.specs.declared.Loaded.{Loaded}
use Rattle.marks.specs.Marks.{is_set, with_mark, without_mark}
use Rattle.refusal.proofs.RefusalLaws as order
use Rattle.refusal.specs.Refusal.{Answer, Tells, fault, ◌then◌}
use Rattle.refusal.specs.declared.Refusal.{Refusal}
use Rattle.refusal.specs.declared.Refusal.TheVariants.{State, Room, BeyondEnd, Place, MarkNumber, MarkUnset}
use Rattle.vsu.proofs.MutesLaws.{mutes-keep}
use Rattle.vsu.proofs.RangeLaws.{power-on-in-range, range-facts}
use Rattle.vsu.specs.Core.{frames_due, in_range, power_on, sides, unit_answer, with_mutes}
use Rattle.vsu.specs.declared.unit.Vsu.{Vsu}
use Rattle.std.specs.Result.{IsOkAnd, MatchResult}
use Rattle.player.specs.Walk.{Walkable, has_place}

-- what a contract says of the answer a and the record q that a call leaves: an order's answer gives them, and a tells of it

abbrev pub Promised : Turn → Answer → Answer → Player → Type 0
Promised t o a q = (a ≡ t.answer) × (q ≡ t.player) × Tells a o

module _ {o : Answer} (p q : Player) where
  pub refuses : {why : Refusal} → o ≡ Err why → Promised (turn_by o p q) o (Err why) p
  unfolding turn_by
  refuses e = (rw e, rw e, order.tells (sym e))

  pub takes : o ≡ Ok tt → {s : Player} → s ≡ q → Promised (turn_by o p q) o (Ok tt) s
  unfolding turn_by
  takes e d = (rw e, rw e d, order.tells (sym e))

-- what a check says where its result is in hand

abbrev in_log : Log → Checked → Log
in_log d (Ok l) = l
in_log d (Err why) = d

module _ (b : List ℕ) (a : Answer) {c : Checked} (e : c ≡ checked_by a (count_of b) (length_in b)) where
  pub fallen : {why : Refusal} → c ≡ Err why → a ≡ Err why
  fallen {why} w = go a (sym w ∙ e)
    where
      go : (x : Answer) → Err why ≡ checked_by x (count_of b) (length_in b) → x ≡ Err why
      go (Ok done) h = cc
      go (Err y) h = cc

  pub passed : {l : Log} → c ≡ Ok l → (a ≡ Ok tt) × (l ≡ record { count = count_of b; cycles = length_in b })
  passed {l} w = go a (sym w ∙ e)
    where
      go : (x : Answer) → Ok l ≡ checked_by x (count_of b) (length_in b) → (x ≡ Ok tt) × (l ≡ record { count = count_of b; cycles = length_in b })
      go (Ok done) h = (refl, ap (in_log l) h)
      go (Err y) h = let z : ◌≡◌ {A = ℕ} 0 1 = cc in absurd (omega arith)

-- 13
placed-as : (b : List ℕ) → log_answer edition1 b ≡ Ok tt → {l : Log} → l ≡ record { count = count_of b; cycles = length_in b } → (cycle applied : ℕ) → misplaced b cycle applied ≡ not (has_place b l cycle applied)
unfolding misplaced check_of
placed-as b a e cycle applied =
    let k : check_of edition1 b ≡ log_with (count_of b) (length_in b) = rw a in
    rw (e, log.stands (log.accepted edition1 b (count_of b) (length_in b) k) cycle applied)

-- the record and the log checked: "log 3 to 8, record 1 then 13"

module _ (p : Player) (b : List ℕ) {c : Checked} (e : c ≡ check_of edition1 b) where
  pub standing-log : {why : Refusal} → c ≡ Err why → Err why ≡ standing_of p b
  unfolding standing_answer ◌then◌ check_of
  standing-log w = rw (fallen b (log_answer edition1 b) e w)

  module _ {l : Log} (w : c ≡ Ok l) where
    checked : (log_answer edition1 b ≡ Ok tt) × (l ≡ record { count = count_of b; cycles = length_in b })
    unfolding check_of
    checked = passed b (log_answer edition1 b) e w

    pub standing-state : in_range p.unit ≡ false → Err State ≡ standing_of p b
    unfolding standing_answer unit_answer fault ◌then◌
    standing-state r = rw (checked.0, r)

    module _ (r : in_range p.unit ≡ true) {t : Bool} (h : t ≡ has_place b l p.cycle p.applied) where
      there : misplaced b p.cycle p.applied ≡ not t
      there = rw h (placed-as b checked.0 checked.1 p.cycle p.applied)

      pub standing-place : t ≡ false → Err Place ≡ standing_of p b
      unfolding standing_answer unit_answer fault ◌then◌
      standing-place f = rw (checked.0, r, there, f)

      pub standing-done : t ≡ true → Ok l ≡ standing_of p b
      unfolding standing_answer unit_answer fault ◌then◌
      standing-done f = rw (checked.0, r, there, f, checked.1)

-- opening
module _ (b : List ℕ) {c : Checked} (e : c ≡ check_of edition1 b) {u : Vsu} (n : u ≡ power_on) where
  pub opened : {l : Log} → c ≡ Ok l → Promised (open_of b) (log_answer edition1 b) (Ok tt) (record { unit = u; cycle = 0; applied = 0; marks = 0 })
  unfolding check_of
  opened w = takes fresh fresh (passed b (log_answer edition1 b) e w).0 (rw n)

  pub unopened : {why : Refusal} → c ≡ Err why → Promised (open_of b) (log_answer edition1 b) (Err why) (record { unit = u; cycle = 0; applied = 0; marks = 0 })
  unfolding check_of
  unopened w = rw n (refuses fresh fresh (fallen b (log_answer edition1 b) e w))

-- by what the check's answer is mapped to
pub opens : (b : List ℕ) (c : Checked) → c ≡ check_of edition1 b → {u : Vsu} → u ≡ power_on → (P : Log → Unit → Type 0) (a : Answer) → MatchResult c (λ (l : Log). IsOkAnd a (P l)) (λ (why : Refusal). a ≡ Err why) →
    Promised (open_of b) (log_answer edition1 b) a (record { unit = u; cycle = 0; applied = 0; marks = 0 })
opens b (Ok l) e n P (Ok done) m = opened b e n refl
opens b (Ok l) e n P (Err why) m = absurd m
opens b (Err why) e n P a m = rw m (unopened b e n refl)

-- A record that stands in the log.

module _ (p : Player) (b : List ℕ) (a : standing_answer p b ≡ Ok tt) {l : Log} (k : l ≡ record { count = count_of b; cycles = length_in b }) where
  stands : deck.Stands p b
  stands = deck.stands p b a

  checked-as : check_of edition1 b ≡ log_with l.count l.cycles
  unfolding check_of
  checked-as = rw (stands.log, k)

  pub walk-on : {target : ℕ} → p.cycle ≤ target → Walkable b l.count p target
  walk-on h =
      record {
        cycles = l.cycles;
        accepted = checked-as;
        ranged = stands.ranged;
        stands = rw k stands.due;
        ahead = h;
      }

  -- from where a seek to an earlier cycle begins
  pub walk-again : {q : Player} → q ≡ restarted p → (target : ℕ) → Walkable b l.count q target
  walk-again e target =
      rw e
      (record {
        cycles = l.cycles;
        accepted = checked-as;
        ranged = mutes-keep power_on p.unit.mutes (range-facts p.unit stands.ranged).mutes power-on-in-range;
        stands = sym (due-none (writes_from edition1 b l.count 0));
        ahead = omega arith;
      })

-- a slot written

module _ (u : Vsu) (m : List ℕ) (from : ℕ) (r : in_range u ≡ true) (h : from + newest.size ≤ length m) where
  rest : mid_of from (length m - from) m ≡ drop from m
  rest = take_all (length m - from) (drop from m) (omega (arith, length-drop from m))

  -- the image laid in from there on
  image-at : {after : List ℕ} → after ≡ (written_of u (mid_of from (length m - from) m)).out → put_mid from (length m - from) m after ≡ sets m from (image_of newest u)
  image-at {after} e =
      let n : length (image_of newest u) ≡ newest.size = image-420 u in
      let z : drop (length m - from) (drop from m) ≡ [] = drop_of_length-le (drop from m) {i = length m - from} (omega (arith, length-drop from m)) in
      let w : from + length (image_of newest u) ≡ from + newest.size = omega (arith, n) in
      rw (z, append-nil after, e, rest, written u (drop from m) r (omega (arith, length-drop from m, h)), drop-drop newest.size from m)
      (sym (sets-eq (image_of newest u) m from (omega (arith, n, h)) ∙ rw w (append_assoc (take from m) (image_of newest u) (drop (from + newest.size) m))))

module _ (p : Player) (slot : ℕ) (m : List ℕ) (h : slot ≤ 15) (g : memory_size ≤ length m) (r : in_range p.unit ≡ true) where
  pub kept : {at : ℕ} {m₁ m₂ after : List ℕ} → at ≡ slot_place slot → m₁ ≡ sets m at (bytes 4 p.cycle) → m₂ ≡ sets m₁ (at + applied_place) (bytes 4 p.applied) →
      after ≡ (written_of p.unit (mid_of (at + image_place) (length m₂ - (at + image_place)) m₂)).out →
      put_mid (at + image_place) (length m₂ - (at + image_place)) m₂ after ≡ sets m (slot_place slot) (slot_of p)
  kept {at} {m₁} {m₂} {after} a d e f =
      let n₁ : length m₁ ≡ length m = ap length d ∙ length-sets m at (bytes 4 p.cycle) in
      let n₂ : length m₂ ≡ length m = ap length e ∙ length-sets m₁ (at + applied_place) (bytes 4 p.applied) ∙ n₁ in
      let k₁ : at + applied_place + length (bytes 4 p.applied) ≡ at + image_place = omega (arith, bytes-length 4 p.applied) in
      let k₂ : at + length (bytes 4 p.cycle) ≡ at + applied_place = omega (arith, bytes-length 4 p.cycle) in
      image-at p.unit m₂ (at + image_place) r (omega (arith, a, h, g, n₂)) f
      ∙ ap (λ (x : List ℕ). sets x (at + image_place) (image_of newest p.unit)) e
      ∙ sets-append m₁ (at + applied_place) (bytes 4 p.applied) (image_of newest p.unit) k₁
      ∙ ap (λ (x : List ℕ). sets x (at + applied_place) (bytes 4 p.applied ++ image_of newest p.unit)) d
      ∙ sets-append m at (bytes 4 p.cycle) (bytes 4 p.applied ++ image_of newest p.unit) k₂
      ∙ ap (λ (x : ℕ). sets m x (slot_of p)) a

-- a mark set

module _ (p : Player) (b : List ℕ) (memory : List ℕ) (slot : ℕ) (above : Refusal) where
  abbrev Sets : Answer → Player → List ℕ → Type 0
  Sets a q after = (a ≡ (set_of above p slot b memory).turn.answer) × (q ≡ (set_of above p slot b memory).turn.player) × (after ≡ (set_of above p slot b memory).memory) × Tells a (set_answer above p slot b (length memory))

  set-refuses : {why : Refusal} → set_answer above p slot b (length memory) ≡ Err why → Sets (Err why) p memory
  unfolding set_by
  set-refuses e = (rw e, rw e, rw e, order.tells (sym e))

  pub set-standing : {why : Refusal} → standing_answer p b ≡ Err why → Sets (Err why) p memory
  unfolding set_answer ◌then◌
  set-standing e = set-refuses (rw e)

  module _ (s : standing_answer p b ≡ Ok tt) where
    pub set-roomless : length memory < memory_size → Sets (Err Room) p memory
    unfolding set_answer fault ◌then◌
    set-roomless h = set-refuses (rw (s, lt-ltb (length memory) memory_size h))

    module _ (h : memory_size ≤ length memory) where
      pub set-above : 15 < slot → Sets (Err above) p memory
      unfolding set_answer fault ◌then◌
      set-above k = set-refuses (rw (s, le-ltb (length memory) memory_size h, lt-ltb 15 slot k))

      pub set-keeps : slot ≤ 15 → (slot ≤ 15) × ((memory_size ≤ length memory) × (in_range p.unit ≡ true))
      set-keeps k = (k, (h, (deck.stands p b s).ranged))

      pub set-done : slot ≤ 15 → {after : List ℕ} → after ≡ sets memory (slot_place slot) (slot_of p) → {n : ℕ} → n ≡ with_mark slot p.marks → Sets (Ok tt) (with_marks p n) after
      unfolding set_answer set_by fault ◌then◌
      set-done k m n =
          let e : set_answer above p slot b (length memory) ≡ Ok tt = rw (s, le-ltb (length memory) memory_size h, le-ltb 15 slot k) in
          (rw e, rw (e, n), rw (e, m), order.tells (sym e))

-- a mark cleared

module _ (p : Player) (slot : ℕ) where
  abbrev Clears : Answer → Player → Type 0
  Clears = Promised (clear_of p slot) (clear_answer p slot)

  pub clear-state : in_range p.unit ≡ false → Clears (Err State) p
  unfolding clear_answer unit_answer fault ◌then◌
  clear-state r = refuses p (with_marks p (without_mark slot p.marks)) (rw r)

  module _ (r : in_range p.unit ≡ true) where
    pub clear-number : 15 < slot → Clears (Err MarkNumber) p
    unfolding clear_answer unit_answer fault ◌then◌
    clear-number k = refuses p (with_marks p (without_mark slot p.marks)) (rw (r, lt-ltb 15 slot k))

    module _ (k : slot ≤ 15) where
      pub clear-unset : is_set slot p.marks ≡ false → Clears (Err MarkUnset) p
      unfolding clear_answer unit_answer fault ◌then◌
      clear-unset v = refuses p (with_marks p (without_mark slot p.marks)) (rw (r, le-ltb 15 slot k, v))

      pub clear-done : is_set slot p.marks ≡ true → {n : ℕ} → n ≡ without_mark slot p.marks → Clears (Ok tt) (with_marks p n)
      unfolding clear_answer unit_answer fault ◌then◌
      clear-done v e = takes p (with_marks p (without_mark slot p.marks)) (rw (r, le-ltb 15 slot k, v)) (rw e)

-- mutes set

module _ (p : Player) (bits : ℕ) {h : Bool} (r : h ≡ in_range p.unit) where
  pub mute-refused : (not h || ltb 63 bits) ≡ true → Promised (mute_of p bits) (mute_answer p bits) (Err State) p
  unfolding mute_answer unit_answer fault ◌then◌
  mute-refused f = refuses p (muted p bits) (rw (← r) (go h (ltb 63 bits) f))
    where
      go : (h t : Bool) → (not h || t) ≡ true → (fault (not h) State then fault t State) ≡ Err State
      go false t k = refl
      go true true k = refl
      go true false k = absurd (true≢false (sym k))

  pub mute-done : (not h || ltb 63 bits) ≡ false → Promised (mute_of p bits) (mute_answer p bits) (Ok tt) (muted p bits)
  unfolding mute_answer unit_answer fault ◌then◌
  mute-done f = takes p (muted p bits) (rw (← r) (go h (ltb 63 bits) f)) refl
    where
      go : (h t : Bool) → (not h || t) ≡ false → (fault (not h) State then fault t State) ≡ Ok tt
      go false t k = absurd (true≢false k)
      go true true k = absurd (true≢false k)
      go true false k = refl

-- going to a mark

module _ (p : Player) (slot : ℕ) (b : List ℕ) (memory : List ℕ) where
  abbrev Goes : Answer → Player → Type 0
  Goes = Promised (go_to_of p slot b memory) (go_to_answer p slot b memory)

  pub go-standing : {why : Refusal} → standing_answer p b ≡ Err why → Goes (Err why) p
  unfolding go_to_answer ◌then◌
  go-standing e = refuses p (in_slot p memory slot) (rw e)

  module _ (s : standing_answer p b ≡ Ok tt) where
    pub go-roomless : length memory < memory_size → Goes (Err Room) p
    unfolding go_to_answer fault ◌then◌
    go-roomless h = refuses p (in_slot p memory slot) (rw (s, lt-ltb (length memory) memory_size h))

    module _ (h : memory_size ≤ length memory) where
      pub go-number : 15 < slot → Goes (Err MarkNumber) p
      unfolding go_to_answer fault ◌then◌
      go-number k = refuses p (in_slot p memory slot) (rw (s, le-ltb (length memory) memory_size h, lt-ltb 15 slot k))

      module _ (k : slot ≤ 15) where
        pub go-unset : is_set slot p.marks ≡ false → Goes (Err MarkUnset) p
        unfolding go_to_answer fault ◌then◌
        go-unset v = refuses p (in_slot p memory slot) (rw (s, le-ltb (length memory) memory_size h, le-ltb 15 slot k, v))

        -- the slot read
        module _ (v : is_set slot p.marks ≡ true) {at : ℕ} (a : at ≡ slot_place slot) {i : Loaded} (z : i ≡ read_of (take (at + slot_size - (at + image_place)) (drop (at + image_place) memory))) where
          slot_read : i ≡ read_of (slot_image memory slot)
          slot_read = let n : at + slot_size - (at + image_place) ≡ slot_size - image_place = omega arith in z ∙ ap read_of (rw (n, a))

          answer_read : {x : Answer} → i.answer ≡ x → read_answer (slot_image memory slot) ≡ x
          answer_read e = sym (ap (λ (l : Loaded). l.answer) slot_read ∙ read_answer_lem (slot_image memory slot)) ∙ e

          pub go-image : {why : Refusal} → i.answer ≡ Err why → Goes (Err why) p
          unfolding go_to_answer fault ◌then◌
          go-image e = refuses p (in_slot p memory slot) (rw (s, le-ltb (length memory) memory_size h, le-ltb 15 slot k, v, answer_read e))

          module _ {done : Unit} (e : i.answer ≡ Ok done) {l : Log} (w : l ≡ record { count = count_of b; cycles = length_in b }) {cycle applied : ℕ} (x : cycle ≡ number 4 memory at) (y : applied ≡ number 4 memory (at + applied_place))
              {t : Bool} (m : t ≡ has_place b l cycle applied) where
            here : cycle ≡ slot_cycle memory slot
            here = rw (← a) x

            been : applied ≡ slot_applied memory slot
            been = rw (← a) y

            off : misplaced b (slot_cycle memory slot) (slot_applied memory slot) ≡ not t
            off = rw (m, here, been) (placed-as b (deck.stands p b s).log w (slot_cycle memory slot) (slot_applied memory slot))

            pub go-place : t ≡ false → Goes (Err Place) p
            unfolding go_to_answer fault ◌then◌
            go-place f = refuses p (in_slot p memory slot) (rw (s, le-ltb (length memory) memory_size h, le-ltb 15 slot k, v, answer_read e, off, f))

            pub go-done : t ≡ true → Goes (Ok tt) (record { unit = with_mutes i.state p.unit.mutes; cycle = cycle; applied = applied; marks = p.marks })
            unfolding go_to_answer in_slot fault ◌then◌
            go-done f =
                takes p (in_slot p memory slot) (rw (s, le-ltb (length memory) memory_size h, le-ltb 15 slot k, v, answer_read e, off, f))
                (rw (slot_read, here, been))

-- a seek

module _ (p : Player) (target : ℕ) (b : List ℕ) where
  abbrev Seeks : Answer → Player → Type 0
  Seeks = Promised (seek_of p target b) (seek_answer p target b)

  pub seek-standing : {why : Refusal} → standing_answer p b ≡ Err why → Seeks (Err why) p
  unfolding seek_answer ◌then◌
  seek-standing e = refuses p (sought_from (writes_in b) p target) (rw e)

  module _ (s : standing_answer p b ≡ Ok tt) {l : Log} (w : l ≡ record { count = count_of b; cycles = length_in b }) where
    pub seek-beyond : l.cycles < target → Seeks (Err BeyondEnd) p
    unfolding seek_answer fault ◌then◌
    seek-beyond h = refuses p (sought_from (writes_in b) p target) (rw (s, lt-ltb (length_in b) target (rw w at h)))

    module _ (h : target ≤ l.cycles) where
      seek-passed : seek_answer p target b ≡ Ok tt
      unfolding seek_answer fault ◌then◌
      seek-passed = rw (s, le-ltb (length_in b) target (rw w at h))

      pub seek-on : p.cycle ≤ target → {q : Player} → q ≡ moved_on (writes_from edition1 b l.count 0) p (target - p.cycle) → Seeks (Ok tt) q
      unfolding sought_from
      seek-on i e = takes p (sought_from (writes_in b) p target) seek-passed (rw (le-leb p.cycle target i) (rw w at e))

      pub seek-again : target < p.cycle → {r q : Player} → r ≡ restarted p → q ≡ moved_on (writes_from edition1 b l.count 0) r (target - r.cycle) → Seeks (Ok tt) q
      unfolding sought_from
      seek-again i d e =
          let z : target - 0 ≡ target = omega arith in
          takes p (sought_from (writes_in b) p target) seek-passed
          (rw (lt-leb p.cycle target i) (rw (w, d) at e ∙ ap (moved_on (writes_in b) (restarted p)) z))

-- a play

module _ (p : Player) (n : ℕ) (b : List ℕ) (out : List ℤ) where
  abbrev Plays : Result Played Refusal → Player → List ℤ → Type 0
  Plays r q after = (r ≡ made_of (play_of p n b out).played) × (q ≡ (play_of p n b out).played.player) × (after ≡ (play_of p n b out).out) × Tells (ended r) (play_answer p n b (length out))

  play-refuses : {why : Refusal} → play_answer p n b (length out) ≡ Err why → Plays (Err why) p out
  unfolding play_by made_by
  play-refuses e = (rw e, rw e, rw e, order.tells (sym e))

  pub play-standing : {why : Refusal} → standing_answer p b ≡ Err why → Plays (Err why) p out
  unfolding play_answer ◌then◌
  play-standing e = play-refuses (rw e)

  module _ (s : standing_answer p b ≡ Ok tt) {l : Log} (w : l ≡ record { count = count_of b; cycles = length_in b }) where
    pub play-beyond : l.cycles < p.cycle + n → Plays (Err BeyondEnd) p out
    unfolding play_answer fault ◌then◌
    play-beyond h = play-refuses (rw (s, lt-ltb (length_in b) (p.cycle + n) (rw w at h)))

    module _ (h : p.cycle + n ≤ l.cycles) {due : ℕ} (d : due ≡ frames_due p.unit n) where
      pub play-roomless : length out / 2 < due → Plays (Err Room) p out
      unfolding play_answer fault ◌then◌
      play-roomless k = play-refuses (rw (s, le-ltb (length_in b) (p.cycle + n) (rw w at h), lt-leb (frames_due p.unit n) (length out / 2) (rw d at k)))

      pub play-due : due ≤ (479 + n) / 480
      play-due = let r = (range-facts p.unit (deck.stands p b s).ranged).output in rw d (omega (arith, r))

      module _ (k : due ≤ length out / 2) where
        pub play-walks : Walkable b l.count p (p.cycle + n) × (frames_due p.unit (p.cycle + n - p.cycle) * 2 ≤ length out)
        play-walks =
            let same : p.cycle + n - p.cycle ≡ n = omega arith in
            (walk-on p b s w (omega arith), rw same (omega (arith, d, k)))

        pub play-done : {q : Player} {counts : Counts} {after : List ℤ} → q ≡ moved_on (writes_from edition1 b l.count 0) p (p.cycle + n - p.cycle) →
            counts ≡ counts_of (moments_on (writes_from edition1 b l.count 0) p.cycle p.unit (p.cycle + n - p.cycle)) →
            after ≡ sides (frames_on (writes_from edition1 b l.count 0) p.cycle p.unit (p.cycle + n - p.cycle)) ++ drop (frames_due p.unit (p.cycle + n - p.cycle) * 2) out →
            Plays (Ok (record { frames = due; counts = counts })) q after
        unfolding play_answer play_by made_by fault ◌then◌
        play-done m x y =
            let same : p.cycle + n - p.cycle ≡ n = omega arith in
            let e : play_answer p n b (length out) ≡ Ok tt = rw (s, le-ltb (length_in b) (p.cycle + n) (rw w at h), le-leb (frames_due p.unit n) (length out / 2) (rw d at k)) in
            (rw (e, d, rw (same, w) at x), rw (e, rw (same, w) at m), rw (e, rw (same, w) at y), order.tells (sym e))
