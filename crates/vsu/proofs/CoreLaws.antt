-- The cases of the definitions of specs/Core.antt, over plain variables.
use Rattle.std.specs.Prelude.{◌≡◌, ℕ, ◌+◌, ◌-◌, ◌*◌, ◌/◌, ◌%◌, ◌<◌, ◌≤◌, Bool, true, false, cond, ◌&&◌, ltb, leb, List, [], ◌∷◌, ◌++◌, map, length, get_or, drop, set, ℤ, pos, Result, Ok, Err}
use mathlib.Core.Path.{refl, sym, ap, ◌∙◌}
use mathlib.Core.Bool.{and_assoc, and-true}
use native.Mathlib.Numerals.{add-one}
use native.Mathlib.Omega.{arith}
use borrow.Author.Tests.{lt-leb, le-leb, lt-ltb, le-ltb, ltb-false, ne_eqb}
use lib.Signed.{mag}
use mir.Syntax.{w8, w16}
use mir.Val.{Val, to_z}
use denote.Array.{each}
use denote.Shadow.{shadow}
use denote.Signed.{SInt}
use lib.ListN.{length-map, drop_of_length-le}
use lib.Seq.{drop-cons, set-get_or, set_out}
use Rattle.laws.proofs.Cases.{ways}
use Rattle.refusal.proofs.RefusalLaws as order
use Rattle.refusal.specs.Refusal.{Tells}
use Rattle.common.specs.Bits.{bit, signed}
use Rattle.voice.proofs.ChannelEnumLaws.{no-offset}
use Rattle.voice.specs.ChannelEnum.{has_offset, stop_voice, voice_write}
use Rattle.voice.specs.declared.channel_enum.Voice.{Voice}
use Rattle.six.specs.Core.{plays, any_plays, voice_at, voices_in_range}
use Rattle.vsu.specs.Core.{decode_of, between, write, write_to, sort_of, says, said_answer, written_by, with_waves, with_modulation, with_voices, frame_side, all_at_most, all_bytes, shaped, in_range, run, frames, frames_due, sides, unit_answer, moved_by, write_of, advance_of, run_answer, Moved, Ran, Written, ran_as, RunGives, ran_by, run_of}
use Rattle.refusal.specs.declared.Refusal.{Refusal}
use Rattle.refusal.specs.declared.Refusal.TheVariants.{State, Room}
use Rattle.vsu.specs.declared.unit.Register.{Register}
use Rattle.vsu.specs.declared.unit.Register.TheVariants as registers
use Rattle.vsu.specs.declared.unit.Said.{Said}
use Rattle.vsu.specs.declared.unit.Said.TheVariants as said
use Rattle.vsu.specs.declared.unit.Vsu.{Vsu}

-- an array's length, where it is told of the elements' machine values
pub length-told : (X Y : Type 0) (f : X → Y) (l : List X) (n : ℕ) → length (map f l) ≡ n → length l ≡ n
length-told X Y f l n e = sym (length-map l f) ∙ e

-- what owning an array of signed bytes tells of its entries
pub bytes-told : (xs : List ℤ) (us : List Val) → shadow (each ℤ (SInt w8).own_val xs us) → all_bytes xs ≡ true
unfolding all_at_most
bytes-told [] us p = refl
bytes-told (x ∷ xs) [] p = absurd p
bytes-told (x ∷ xs) (u ∷ us) p = rw (le-leb (mag x) 127 (omega (arith, p.0.1)), bytes-told xs us p.1)

pub range-told : (u : Vsu) → length u.voices ≡ 6 → length u.waves ≡ 160 → length u.modulation ≡ 32 → all_bytes u.modulation ≡ true → {v w : Bool} → v ≡ voices_in_range u.voices → w ≡ all_at_most 63 u.waves → (v && leb u.output 479 && w && leb u.mutes 63) ≡ in_range u
unfolding in_range shaped
range-told u a b c d p q = rw (p, q, a, b, c, d)

-- the address

module _ (low high a : ℕ) where
  inside : low ≤ a → a ≤ high → between low high a ≡ true
  inside h g = rw (le-leb low a h, le-leb a high g)

  below : a < low → between low high a ≡ false
  below h = rw (lt-leb low a h)

  above : low ≤ a → high < a → between low high a ≡ false
  above h g = rw (le-leb low a h, lt-leb a high g)

module _ (a : ℕ) where
  pub decode-stop : a ≡ 0x580 → registers.Stop ≡ decode_of a
  unfolding decode_of
  decode-stop e = rw e

  pub decode-wave : a < 0x280 → registers.Wave (a / 4) ≡ decode_of a
  unfolding decode_of
  decode-wave h = rw (inside 0 0x27F a (omega arith) (omega arith)) (ap registers.Wave (omega arith))

  module _ (h : 0x280 ≤ a) where
    pub decode-modulation : a < 0x300 → registers.Modulation ((a - 0x280) / 4) ≡ decode_of a
    unfolding decode_of
    decode-modulation g = rw (above 0 0x27F a (omega arith) h, inside 0x280 0x2FF a h (omega arith))

    module _ (g : 0x300 ≤ a) where
      pub decode-gap : a < 0x400 → registers.Nothing ≡ decode_of a
      unfolding decode_of
      decode-gap f = rw (above 0 0x27F a (omega arith) h, above 0x280 0x2FF a h g, below 0x400 0x57F a f, ne_eqb a 0x580 (omega arith))

      module _ (f : 0x400 ≤ a) where
        pub decode-channel : a < 0x580 → registers.Channel ((a - 0x400) / 0x40) (a % 0x20) ≡ decode_of a
        unfolding decode_of
        decode-channel e = rw (above 0 0x27F a (omega arith) h, above 0x280 0x2FF a h g, inside 0x400 0x57F a f (omega arith))

        pub decode-above : 0x580 ≤ a → (a ≡ 0x580 → ⊥) → registers.Nothing ≡ decode_of a
        unfolding decode_of
        decode-above e n = rw (above 0 0x27F a (omega arith) h, above 0x280 0x2FF a h g, above 0x400 0x57F a f e, ne_eqb a 0x580 n)

-- whether every sample is small, from the front

abbrev pub SmallSoFar : ℕ → List ℕ → ℕ → Bool → Type 0
SmallSoFar most l i t = all_at_most most l ≡ (t && all_at_most most (drop i l))

pub one_more : (most : ℕ) (l : List ℕ) (i : ℕ) → i < length l → (t : Bool) → SmallSoFar most l i t → SmallSoFar most l (i + 1) (t && leb (get_or l i 0) most)
unfolding all_at_most
one_more most l i h t e = e ∙ rw (drop-cons l i 0 h, add-one i) (sym (and_assoc t (leb (get_or l i 0) most) _))

pub all_small : (most : ℕ) (l : List ℕ) (i : ℕ) → length l ≤ i → (t : Bool) → SmallSoFar most l i t → t ≡ all_at_most most l
unfolding all_at_most
all_small most l i h t e = sym (e ∙ rw (drop_of_length-le l h) (and-true t))

-- register writes: each is dropped, goes in, or lies past the end of its array and so changes nothing

module _ (u : Vsu) (b : ℕ) where
  pub wave-dropped : (at : ℕ) {p : Bool} → p ≡ true → p ≡ any_plays u.voices → u ≡ write_to (registers.Wave at) b u
  unfolding write_to
  wave-dropped at p e = rw (← e, p)

  pub wave-written : (at : ℕ) {p : Bool} {s : ℕ} → p ≡ false → p ≡ any_plays u.voices → s ≡ b % 64 → with_waves u (set u.waves at s) ≡ write_to (registers.Wave at) b u
  unfolding write_to
  wave-written at p e q = rw (← e, p, q)

  pub wave-past : (at : ℕ) {p : Bool} → p ≡ false → p ≡ any_plays u.voices → length u.waves ≤ at → u ≡ write_to (registers.Wave at) b u
  unfolding write_to
  wave-past at p e h = rw (← e, p, set_out u.waves at (b % 64) h)

  pub modulation-dropped : (at : ℕ) → plays (voice_at 4 u.voices) ≡ true → u ≡ write_to (registers.Modulation at) b u
  unfolding write_to
  modulation-dropped at p = rw p

  pub modulation-written : (at : ℕ) {s : ℤ} → plays (voice_at 4 u.voices) ≡ false → s ≡ signed b → with_modulation u (set u.modulation at s) ≡ write_to (registers.Modulation at) b u
  unfolding write_to
  modulation-written at p q = rw (p, q)

  pub modulation-past : (at : ℕ) → plays (voice_at 4 u.voices) ≡ false → length u.modulation ≤ at → u ≡ write_to (registers.Modulation at) b u
  unfolding write_to
  modulation-past at p h = rw (p, set_out u.modulation at (signed b) h)

  pub channel-written : (k o : ℕ) {v : Voice} → v ≡ voice_write o b (voice_at k u.voices) → with_voices u (set u.voices k v) ≡ write_to (registers.Channel k o) b u
  unfolding write_to
  channel-written k o e = rw e

  pub channel-past : (k o : ℕ) → length u.voices ≤ k → u ≡ write_to (registers.Channel k o) b u
  unfolding write_to
  channel-past k o h = rw (set_out u.voices k (voice_write o b (voice_at k u.voices)) h)

  pub stop-written : {p : Bool} {vs : List Voice} → p ≡ bit 0 b → p ≡ true → vs ≡ map stop_voice u.voices → with_voices u vs ≡ write_to registers.Stop b u
  unfolding write_to
  stop-written e p q = rw (← e, p, q)

  pub stop-passed : {p : Bool} → p ≡ bit 0 b → p ≡ false → u ≡ write_to registers.Stop b u
  unfolding write_to
  stop-passed e p = rw (← e, p)

  pub nothing_written : u ≡ write_to registers.Nothing b u
  unfolding write_to
  nothing_written = refl

module _ (u : Vsu) (b a : ℕ) where
  -- what a write to a register does is what the write does whose address decodes to it
  pub decoded : {r q : Register} {t : Vsu} → r ≡ decode_of a → r ≡ q → t ≡ write_to q b u → t ≡ write a b u
  decoded e k p = p ∙ ap (λ (r : Register). write_to r b u) (sym k ∙ e)

-- what a write says

module _ (k o : ℕ) (vs : List Voice) where
  pub sort-channel : k < length vs → {h : Bool} {s : Said} → h ≡ has_offset o (voice_at k vs).kind → s ≡ cond h said.Taken said.NoRegister → s ≡ sort_of (registers.Channel k o) vs
  unfolding sort_of
  sort-channel l e f = f ∙ rw (lt-ltb k (length vs) l, e)

  pub sort-past : length vs ≤ k → said.NoRegister ≡ sort_of (registers.Channel k o) vs
  unfolding sort_of
  sort-past l = rw (le-ltb k (length vs) l)

pub sort-wave : (at : ℕ) (vs : List Voice) {p : Bool} {s : Said} → p ≡ any_plays vs → s ≡ cond p said.Held said.Taken → s ≡ sort_of (registers.Wave at) vs
unfolding sort_of
sort-wave at vs e f = f ∙ rw e

pub sort-modulation : (at : ℕ) (vs : List Voice) {s : Said} → s ≡ cond (plays (voice_at 4 vs)) said.Held said.Taken → s ≡ sort_of (registers.Modulation at) vs
unfolding sort_of
sort-modulation at vs f = f

pub sort-stop : (vs : List Voice) → said.Taken ≡ sort_of registers.Stop vs
unfolding sort_of
sort-stop vs = refl

pub sort-nothing : (vs : List Voice) → said.NoRegister ≡ sort_of registers.Nothing vs
unfolding sort_of
sort-nothing vs = refl

pub sorted : (a : ℕ) (vs : List Voice) {r q : Register} {s : Said} → r ≡ decode_of a → r ≡ q → s ≡ sort_of q vs → s ≡ sort_of (decode_of a) vs
sorted a vs e k f = f ∙ ap (λ (r : Register). sort_of r vs) (sym k ∙ e)

-- each of the three accepts the write
pub says-accepted : (a : ℕ) (u : Vsu) → said_answer (Ok (says a u)) ≡ Ok tt
unfolding said_answer
says-accepted a u = refl

-- A write that is held, or has no register, leaves the state as it is.
pub unheard : (a b : ℕ) (u : Vsu) → (says a u ≡ said.Taken → ⊥) → write a b u ≡ u
unfolding sort_of write_to
unheard a b u n = go (decode_of a) n
  where
    go : (r : Register) → (sort_of r u.voices ≡ said.Taken → ⊥) → write_to r b u ≡ u
    go (registers.Wave at) n = held (any_plays u.voices) n
      where
        held : (p : Bool) → (cond p said.Held said.Taken ≡ said.Taken → ⊥) → cond p u (with_waves u (set u.waves at (b % 64))) ≡ u
        held true n = refl
        held false n = absurd (n refl)
    go (registers.Modulation at) n = held (plays (voice_at 4 u.voices)) n
      where
        held : (p : Bool) → (cond p said.Held said.Taken ≡ said.Taken → ⊥) → cond p u (with_modulation u (set u.modulation at (signed b))) ≡ u
        held true n = refl
        held false n = absurd (n refl)
    go (registers.Channel k o) n = nowhere (ltb k (length u.voices)) (has_offset o (voice_at k u.voices).kind) refl refl n
      where
        nowhere : (p q : Bool) → ltb k (length u.voices) ≡ p → has_offset o (voice_at k u.voices).kind ≡ q → (cond (p && q) said.Taken said.NoRegister ≡ said.Taken → ⊥) → with_voices u (set u.voices k (voice_write o b (voice_at k u.voices))) ≡ u
        nowhere p false e f n = rw (no-offset o b (voice_at k u.voices) f, set-get_or)
        nowhere true true e f n = absurd (n refl)
        nowhere false true e f n = rw (set_out u.voices k _ (ltb-false k (length u.voices) e))
    go registers.Stop n = absurd (n refl)
    go registers.Nothing n = refl

-- the frame

pub frame-side : {sum : ℕ} → sum ≤ 5478 → to_z w16 (sum / 8 * 32) ≡ frame_side sum
frame-side {sum} h = rw (lt-ltb (sum / 8 * 32) 32768 (omega arith)) (ap pos (omega arith))

-- the answers: `p` is what the range test said

module _ (u : Vsu) {p : Bool} (e : p ≡ in_range u) where
  pub unit-accepted : p ≡ true → unit_answer u ≡ Ok tt
  unfolding unit_answer
  unit-accepted h = order.sound State (rw (← e, h))

  pub unit-refused : p ≡ false → unit_answer u ≡ Err State
  unfolding unit_answer
  unit-refused h = order.at-fault State (rw (← e, h))

module _ (u : Vsu) (a b : ℕ) where
  pub written_on : unit_answer u ≡ Ok tt → {t : Vsu} {s : Said} → s ≡ says a u → t ≡ write a b u → (record { state = t; said = Ok s } ≡ write_of a b u) × Tells (said_answer (Ok s)) (unit_answer u)
  unfolding written_by said_answer
  written_on h k q = (rw (q, k, h), order.tells (sym h))

  pub written-refused : {why : Refusal} → unit_answer u ≡ Err why → (record { state = u; said = Err why } ≡ write_of a b u) × Tells (said_answer (Err why)) (unit_answer u)
  unfolding written_by said_answer
  written-refused h = (rw h, order.tells (sym h))

module _ (u : Vsu) where
  pub moved_on_lem : unit_answer u ≡ Ok tt → {s t : Vsu} → s ≡ t → (record { state = s; answer = Ok tt } ≡ moved_by (unit_answer u) u t) × Tells (Ok tt) (unit_answer u)
  unfolding moved_by
  moved_on_lem a q = (rw (q, a), order.tells (sym a))

  pub moved-refused : {why : Refusal} → unit_answer u ≡ Err why → (t : Vsu) → (record { state = u; answer = Err why } ≡ moved_by (unit_answer u) u t) × Tells (Err why) (unit_answer u)
  unfolding moved_by
  moved-refused a t = (rw a, order.tells (sym a))

  module _ (n room : ℕ) where
    pub run-refused : {why : Refusal} → unit_answer u ≡ Err why → run_answer n u room ≡ Err why
    unfolding run_answer
    run-refused a = order.ends _ a

    module _ (a : unit_answer u ≡ Ok tt) where
      pub run-crowded : room / 2 < frames_due u n → run_answer n u room ≡ Err Room
      unfolding run_answer
      run-crowded h = order.on _ a ∙ order.at-fault Room (rw (lt-leb (frames_due u n) (room / 2) h))

      pub run-accepted : frames_due u n ≤ room / 2 → run_answer n u room ≡ Ok tt
      unfolding run_answer
      run-accepted h = order.on _ a ∙ order.sound Room (rw (le-leb (frames_due u n) (room / 2) h))

  module _ (n : ℕ) (out : List ℤ) where
    -- the answer, what the buffer holds, the answer's number and value
    abbrev pub Promised : Ran → List ℤ → Type 0
    Promised r after = (r ≡ (run_of n u out).ran) × (after ≡ (run_of n u out).out) × Tells r.answer (run_answer n u (length out))

    pub ran-refused : {why : Refusal} → run_answer n u (length out) ≡ Err why → Promised (record { state = u; frames = 0; answer = Err why }) out
    unfolding ran_by
    ran-refused a = (rw a, rw a, order.tells (sym a))

    pub ran_on : run_answer n u (length out) ≡ Ok tt → {s : Vsu} {due : ℕ} {after : List ℤ} → s ≡ run n u → due ≡ frames_due u n → after ≡ sides (frames n u) ++ drop (frames_due u n * 2) out → Promised (record { state = s; frames = due; answer = Ok tt }) after
    unfolding ran_by
    ran_on a q d r = (rw (q, d, a), rw (r, a), order.tells (sym a))

-- a run's record has the state that is left, however the run ended
pub ran-state : (r : Result ℕ Refusal) (u : Vsu) → (ran_as r u).state ≡ u
unfolding ran_as
ran-state (Ok frames) u = refl
ran-state (Err why) u = refl

-- what a call gives from a state in range, for the layers above

module _ (u : Vsu) (h : in_range u ≡ true) where
  pub in-range-accepted : unit_answer u ≡ Ok tt
  in-range-accepted = unit-accepted u refl h

  pub write-gives : (a b : ℕ) → ◌≡◌ {A = Written} (write_of a b u) (record { state = write a b u; said = Ok (says a u) })
  unfolding written_by
  write-gives a b = rw in-range-accepted

  pub advance-gives : (n : ℕ) → ◌≡◌ {A = Moved} (advance_of n u) (record { state = run n u; answer = Ok tt })
  unfolding moved_by
  advance-gives n = rw in-range-accepted

  pub run-gives : (n : ℕ) (out : List ℤ) → frames_due u n ≤ length out / 2 → ◌≡◌ {A = RunGives} (run_of n u out) (record { ran = record { state = run n u; frames = frames_due u n; answer = Ok tt }; out = sides (frames n u) ++ drop (frames_due u n * 2) out })
  unfolding ran_by
  run-gives n out g = rw (run-accepted u n (length out) in-range-accepted g)
