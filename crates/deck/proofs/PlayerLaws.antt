-- What an accepted call has passed, row by row of its order.
use Rattle.std.specs.Prelude.{◌≡◌, ℕ, ◌+◌, ◌-◌, ◌/◌, ◌≤◌, true, false, not, eqb, ltb, leb, List, [], ◌∷◌, length, drop, Ok}
use mathlib.Core.Path.{sym, ap, ◌∙◌}
use borrow.Author.Tests.{eqb-true, leb-true, ltb-false, not-false}
use lib.ListN.{length-drop}
use lib.Seq.{length-take-le}
use native.Mathlib.Omega.{arith}
use Rattle.image.specs.Image.{image_of, read_answer}
use Rattle.image.proofs.CallLaws.{read_answer_lem}
use Rattle.image.proofs.RoundTrip.{not-9, reads-back}
use Rattle.laws.proofs.Cases.{each}
use Rattle.register_log.specs.Log.{due_before, edition1, log_answer}
use Rattle.marks.specs.Marks.{is_set}
use Rattle.refusal.proofs.RefusalLaws.{both-on, passed, was-sound}
use Rattle.refusal.specs.Refusal.{answer_number}
use Rattle.refusal.specs.declared.Refusal.{Refusal}
use Rattle.refusal.specs.declared.Refusal.TheVariants.{State, Room, BeyondEnd, Place, MarkNumber, MarkUnset}
use Rattle.table.specs.Table.{newest}
use Rattle.vsu.specs.Core.{fits_in, frames_due, in_range, unit_answer}
use Rattle.vsu.specs.declared.unit.Vsu.{Vsu}
use Rattle.image.specs.declared.Loaded.{Loaded}
use Rattle.deck.specs.Player.{clear_answer, go_to_answer, image_place, length_in, memory_size, misplaced, mute_answer, play_answer, seek_answer, set_answer, slot_image, slot_place, slot_size, standing_answer, writes_in}
use Rattle.deck.specs.declared.Player.{Player}

-- 13
pub placed : (b : List ℕ) (cycle applied : ℕ) → misplaced b cycle applied ≡ false → (cycle ≤ length_in b) × (applied ≡ due_before (writes_in b) cycle)
unfolding misplaced
placed b cycle applied h =
    each (leb cycle (length_in b)) (eqb applied (due_before (writes_in b) cycle) ∷ []) (not-false _ h)
    (λ k. (leb-true cycle (length_in b) k.0, eqb-true applied (due_before (writes_in b) cycle) k.1.0))

pub record Stands (p : Player) (b : List ℕ) : Type 0 where
  pub log : log_answer edition1 b ≡ Ok tt
  pub ranged : in_range p.unit ≡ true
  pub within : p.cycle ≤ length_in b
  pub due : p.applied ≡ due_before (writes_in b) p.cycle

module _ (p : Player) (b : List ℕ) where
  pub stands : standing_answer p b ≡ Ok tt → Stands p b
  unfolding standing_answer unit_answer
  stands h =
      let l = both-on (log_answer edition1 b) _ h in
      let r = passed (not (in_range p.unit)) State l.1 in
      let k = placed b p.cycle p.applied (was-sound (misplaced b p.cycle p.applied) Place r.1) in
      record { log = l.0; ranged = not-false _ r.0; within = k.0; due = k.1 }

  pub play-stands : (n room : ℕ) → play_answer p n b room ≡ Ok tt → standing_answer p b ≡ Ok tt
  unfolding play_answer
  play-stands n room h = (both-on (standing_answer p b) _ h).0

  pub play-passed : (n room : ℕ) → play_answer p n b room ≡ Ok tt → p.cycle + n ≤ length_in b
  unfolding play_answer
  play-passed n room h =
      ltb-false (length_in b) (p.cycle + n) (passed (ltb (length_in b) (p.cycle + n)) BeyondEnd (both-on (standing_answer p b) _ h).1).0

  pub play-fits : (n room : ℕ) → play_answer p n b room ≡ Ok tt → frames_due p.unit n ≤ room / 2
  unfolding play_answer
  play-fits n room h =
      let t = passed (ltb (length_in b) (p.cycle + n)) BeyondEnd (both-on (standing_answer p b) _ h).1 in
      leb-true (frames_due p.unit n) (room / 2) (not-false _ (was-sound (not (fits_in n p.unit room)) Room t.1))

  pub seek-passed : (target : ℕ) → seek_answer p target b ≡ Ok tt → target ≤ length_in b
  unfolding seek_answer
  seek-passed target h =
      ltb-false (length_in b) target (was-sound (ltb (length_in b) target) BeyondEnd (both-on (standing_answer p b) _ h).1)

  pub set-passed : (above : Refusal) (slot size : ℕ) → set_answer above p slot b size ≡ Ok tt → (memory_size ≤ size) × (slot ≤ 15)
  unfolding set_answer
  set-passed above slot size h =
      let r = passed (ltb size memory_size) Room (both-on (standing_answer p b) _ h).1 in
      (ltb-false size memory_size r.0, ltb-false 15 slot (was-sound (ltb 15 slot) above r.1))

  pub go-to-passed : (slot : ℕ) (memory : List ℕ) → go_to_answer p slot b memory ≡ Ok tt → (slot ≤ 15) × (is_set slot p.marks ≡ true)
  unfolding go_to_answer
  go-to-passed slot memory h =
      let r = passed (ltb (length memory) memory_size) Room (both-on (standing_answer p b) _ h).1 in
      let l = passed (ltb 15 slot) MarkNumber r.1 in
      let s = passed (not (is_set slot p.marks)) MarkUnset l.1 in
      (ltb-false 15 slot l.0, not-false _ s.0)

pub clear-passed : (p : Player) (slot : ℕ) → clear_answer p slot ≡ Ok tt → slot ≤ 15
unfolding clear_answer unit_answer
clear-passed p slot h =
    let r = passed (not (in_range p.unit)) State h in
    ltb-false 15 slot (passed (ltb 15 slot) MarkNumber r.1).0

pub mute-passed : (p : Player) (bits : ℕ) → mute_answer p bits ≡ Ok tt → bits ≤ 63
unfolding mute_answer unit_answer
mute-passed p bits h =
    let r = passed (not (in_range p.unit)) State h in ltb-false 63 bits (was-sound (ltb 63 bits) State r.1)

-- the image of a state in range is read without a fault
pub image-sound : (u : Vsu) → in_range u ≡ true → read_answer (image_of newest u) ≡ Ok tt
image-sound u h = sym (read_answer_lem (image_of newest u)) ∙ ap (λ (l : Loaded). l.answer) (reads-back u h)

-- a slot's image has its bytes: of the image's refusals, 9 is none of a slot's
pub slot-not-9 : (slot : ℕ) (memory : List ℕ) → memory_size ≤ length memory → slot ≤ 15 → answer_number (read_answer (slot_image memory slot)) ≡ 9 → ⊥
slot-not-9 slot memory h g =
    not-9 (slot_image memory slot)
    (length-take-le (slot_size - image_place) (drop (slot_place slot + image_place) memory) (omega (arith, length-drop (slot_place slot + image_place) memory, h, g)))
