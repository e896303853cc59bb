-- Where a frame stands: the frames of a span one by one, each by the state that it is the frame of, and their sides in a buffer.
use Prim.Native.Nat.{ℕ, zero, suc, ◌+◌, ◌-◌, ◌*◌, ◌%◌, ◌<◌, ◌≤◌}
use mathlib.Core.Path.{◌≡◌, refl, ◌∙◌}
use mathlib.Core.Bool.{Bool, true, false}
use mathlib.Core.List.{List, [], ◌∷◌, ◌++◌}
use native.Mathlib.Omega.{arith}
use borrow.Author.Tests.{le-leb, ltb-false, ltb-true}
use lib.Dec.{ltb}
use lib.IntN.{ℤ}
use lib.ListN.{get_or, length, get_or-append}
use lib.Seq.{get_or_at}
use Rattle.deck.proofs.UnbrokenLaws.{apply-output, frames-on-length, run-on-output}
use Rattle.deck.specs.Unbroken.{apply_at, frames_on, run_on}
use Rattle.register_log.specs.declared.Write.{Write}
use Rattle.six.specs.Core.{silenced}
use Rattle.vsu.proofs.RunLaws.{sides-length}
use Rattle.vsu.specs.Core.{cycle, frame_of, frames_due, made, makes_frame, sides}
use Rattle.vsu.specs.declared.unit.Frame.{Frame}
use Rattle.vsu.specs.declared.unit.Vsu.{Vsu}
use Rattle.stems.specs.Stems.{Side, place_of}
use Rattle.stems.specs.Stems.Side.{left, right}

-- the frame of a state, with its mutes
abbrev pub frame_in : Vsu → Frame
frame_in v = frame_of v.waves (silenced v.mutes v.voices)

made_one : (w : Vsu) → makes_frame w ≡ true → made w ≡ frame_in (cycle w) ∷ []
unfolding made cycle
made_one w h = rw h

module _ (ws : List Write) (c : ℕ) (u : Vsu) (h : u.output ≤ 479) (d : Frame) where
  abbrev Is : ℕ → Frame → Type 0
  Is i f = f ≡ frame_in (run_on ws c u (480 * suc i - u.output))

  -- the cycle that makes it
  last : (n i : ℕ) → frames_due u n ≤ i → i < frames_due u (suc n) → Is i (get_or (frames_on ws c u n ++ made (apply_at ws (c + n) (run_on ws c u n))) i d)
  unfolding run_on
  last n i l g =
      let w : Vsu = apply_at ws (c + n) (run_on ws c u n) in
      let o : w.output ≡ (u.output + n) % 480 = apply-output ws (c + n) (run_on ws c u n) ∙ run-on-output ws c u h n in
      let m : made w ≡ frame_in (cycle w) ∷ [] = made_one w (le-leb 480 (w.output + 1) (omega arith)) in
      let t : 480 * suc i - u.output ≡ suc n = omega arith in
      rw (m, t) (get_or_at (frames_on ws c u n) (frame_in (cycle w)) [] d i (frames-on-length ws c u h n ∙ omega arith))

  -- frame i of n cycles from u is that of the state 480 × (i + 1) cycles after the output counter's last 0
  pub frame_at : (n i : ℕ) → i < frames_due u n → Is i (get_or (frames_on ws c u n) i d)
  unfolding frames_on
  frame_at zero i g = absurd (omega arith)
  frame_at (suc n) i g = go (ltb i (frames_due u n)) refl (frame_at n i)
    where
      go : (t : Bool) → ltb i (frames_due u n) ≡ t → (i < frames_due u n → Is i (get_or (frames_on ws c u n) i d)) → Is i (get_or (frames_on ws c u n ++ made (apply_at ws (c + n) (run_on ws c u n))) i d)
      go true e r =
          let l : i < frames_due u n = ltb-true i (frames_due u n) e in
          get_or-append (frames_on ws c u n) _ d i (omega (arith, l, frames-on-length ws c u h n)) ∙ r l
      go false e r = last n i (ltb-false i (frames_due u n) e) g

-- a side of frame i stands at its place

abbrev pub side_in : Side → Frame → ℤ
side_in left f = f.left
side_in right f = f.right

pub side-at : (z : ℤ) (d : Frame) (s : Side) (fs : List Frame) (i : ℕ) → i < length fs → get_or (sides fs) (place_of s i) z ≡ side_in s (get_or fs i d)
unfolding sides
side-at z d s [] i l = absurd (omega arith)
side-at z d left (f ∷ fs) zero l = refl
side-at z d right (f ∷ fs) zero l = refl
side-at z d left (f ∷ fs) (suc i) l = let e : suc i * 2 ≡ suc (suc (i * 2)) = omega arith in rw e (side-at z d left fs i (omega arith))
side-at z d right (f ∷ fs) (suc i) l =
    let e : suc i * 2 + 1 ≡ suc (suc (i * 2 + 1)) = omega arith in rw e (side-at z d right fs i (omega arith))

pub side-within : (s : Side) (fs : List Frame) (i : ℕ) → i < length fs → place_of s i < length (sides fs)
side-within left fs i l = omega (arith, l, sides-length fs)
side-within right fs i l = omega (arith, l, sides-length fs)
