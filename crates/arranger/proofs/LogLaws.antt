-- Over a log: two neighbouring entries that are due at one cycle and may be exchanged, exchanged.
use Rattle.std.specs.Prelude.{◌≡◌, ℕ, zero, suc, ◌+◌, ◌-◌, ◌<◌, Bool, true, false, cond, eqb, List, [], ◌∷◌, ◌++◌, length, get_or}
use mathlib.Core.Path.{refl, sym, ap, ap₂, ◌∙◌}
use native.Mathlib.Omega.{arith}
use Rattle.laws.proofs.Cases.{ways}
use Rattle.deck.proofs.UnbrokenLaws.{Bytes, state-keeps}
use Rattle.deck.specs.Unbroken.{apply_at, frames_in, frames_of, state_at}
use Rattle.register_log.proofs.EncoderLaws.{Fits, Laid, Sound, log-accepted}
use Rattle.register_log.specs.Encoder.{log_of}
use Rattle.register_log.specs.Log.{Layout, check_of, log_with}
use Rattle.register_log.specs.declared.Write.{Write}
use Rattle.vsu.proofs.RangeLaws.{write_keeps}
use Rattle.vsu.specs.Core.{cycle, in_range, made, with_mutes, write}
use Rattle.vsu.specs.declared.unit.Frame.{Frame}
use Rattle.vsu.specs.declared.unit.Vsu.{Vsu}
use Rattle.arranger.proofs.ExchangeLaws.{in-range-kinds, may-exchange}
use Rattle.arranger.specs.Arranger.{may_exchange}

-- the writes of a log, with w and x exchanged behind the others
module _ (w x : Write) (ws : List Write) where
  abbrev one : List Write → List Write
  one vs = vs ++ w ∷ x ∷ ws

  abbrev other : List Write → List Write
  other vs = vs ++ x ∷ w ∷ ws

  length-stays : (vs : List Write) → length (other vs) ≡ length (one vs)
  length-stays [] = refl
  length-stays (v ∷ vs) = ap suc (length-stays vs)

  -- what is so of each entry still is
  each-stays : (P : Write → Type 0) (d : Write) (vs : List Write) → ((i : ℕ) → i < length (one vs) → P (get_or (one vs) i d)) → (i : ℕ) → i < length (other vs) → P (get_or (other vs) i d)
  each-stays P d [] p zero h = p 1 (omega arith)
  each-stays P d [] p (suc zero) h = p 0 (omega arith)
  each-stays P d [] p (suc (suc i)) h = p (suc (suc i)) h
  each-stays P d (v ∷ vs) p zero h = p 0 (omega arith)
  each-stays P d (v ∷ vs) p (suc i) h = each-stays P d vs (λ j g. p (suc j) (omega (arith, g))) i (omega (arith, h))

  module _ (due : w.due ≡ x.due) where
    due-stays : (d : Write) (vs : List Write) (i : ℕ) → (get_or (other vs) i d).due ≡ (get_or (one vs) i d).due
    due-stays d [] zero = sym due
    due-stays d [] (suc zero) = due
    due-stays d [] (suc (suc i)) = refl
    due-stays d (v ∷ vs) zero = refl
    due-stays d (v ∷ vs) (suc i) = due-stays d vs i

    -- It still is a log, of as many entries and of the same length.
    pub still-a-log : {l : Layout} → Laid l → (d : Write) (vs : List Write) (k : ℕ) → Sound l d (one vs) k → check_of l (log_of l (other vs) k) ≡ log_with (length (one vs)) k
    still-a-log {l} laid d vs k s =
        log-accepted laid d (other vs) k
        (record {
          most = rw (length-stays vs) s.most;
          cycles = s.cycles;
          fits = each-stays (Fits l) d vs s.fits;
          below = each-stays (λ v. v.due < k) d vs s.below;
          rises = λ i h. rw (due-stays d vs i, due-stays d vs (suc i)) (s.rises i (rw (length-stays vs) at h));
        })
        ∙ ap (λ n. log_with n k) (length-stays vs)

module _ (w x : Write) (ws : List Write) (due : w.due ≡ x.due) (y : may_exchange w.address w.byte x.address x.byte ≡ true) where
  apply-exchanged : (vs : List Write) (t : ℕ) (u : Vsu) → Bytes (one w x ws vs) → in_range u ≡ true → apply_at (one w x ws vs) t u ≡ apply_at (other w x ws vs) t u
  unfolding apply_at
  apply-exchanged [] t u b r = rw due (ap (apply_at ws t) (go (eqb x.due t)))
    where
      go : (s : Bool) → cond s (write x.address x.byte (cond s (write w.address w.byte u) u)) (cond s (write w.address w.byte u) u) ≡ cond s (write w.address w.byte (cond s (write x.address x.byte u) u)) (cond s (write x.address x.byte u) u)
      go true = may-exchange w.address w.byte x.address x.byte b.0 b.1.0 y u (in-range-kinds u r)
      go false = refl
  apply-exchanged (v ∷ vs) t u b r =
      apply-exchanged vs t (cond (eqb v.due t) (write v.address v.byte u) u) b.1
      (ways (λ (z : Vsu). in_range z ≡ true) (eqb v.due t) (λ _. write_keeps u v.address v.byte b.0 r) (λ _. r))

  module _ (vs : List Write) (b : Bytes (one w x ws vs)) where
    pub states-stay : (t : ℕ) → state_at (one w x ws vs) t ≡ state_at (other w x ws vs) t
    unfolding state_at
    states-stay zero = refl
    states-stay (suc t) =
        ap cycle (apply-exchanged vs t (state_at (one w x ws vs) t) b (state-keeps (one w x ws vs) t b) ∙ ap (apply_at (other w x ws vs) t) (states-stay t))

    frames-of-stay : (m a n : ℕ) → frames_of (one w x ws vs) m a n ≡ frames_of (other w x ws vs) m a n
    unfolding frames_of
    frames-of-stay m a zero = refl
    frames-of-stay m a (suc n) =
        ap₂ (λ (fs : List Frame) (u : Vsu). fs ++ made (with_mutes u m)) (frames-of-stay m a n)
        (apply-exchanged vs (a + n) (state_at (one w x ws vs) (a + n)) b (state-keeps (one w x ws vs) (a + n) b) ∙ ap (apply_at (other w x ws vs) (a + n)) (states-stay (a + n)))

    -- with any mutes
    pub frames-stay : (m a c : ℕ) → frames_in (one w x ws vs) m a c ≡ frames_in (other w x ws vs) m a c
    frames-stay m a c = frames-of-stay m a (c - a)
