-- A bounce among demand 3's calls: where a deck stands in the unbroken run, the seven are that run's frames. The call hands the record
-- back as given and is lent no mark memory, so the calls after it find the deck as it was.
use Prim.Native.Nat.{ℕ, ◌+◌, ◌*◌, ◌<◌}
use mathlib.Core.Path.{◌≡◌, sym, ap, ap₂, ◌∙◌}
use mathlib.Core.List.{List, [], ◌∷◌, ◌++◌}
use lib.IntN.{ℤ}
use lib.ListN.{drop, get_or, length}
use Rattle.deck.proofs.UnbrokenLaws.{frames-on-length, frames-span}
use Rattle.deck.specs.Calls.{Deck, InRun, Named, answer_at, answer_of, yields}
use Rattle.deck.specs.Calls.Call.{play}
use Rattle.deck.specs.Player.{play_answer, writes_in}
use Rattle.deck.specs.Unbroken.{frames_in, frames_on}
use Rattle.vsu.specs.Core.{sides, with_mutes}
use Rattle.vsu.specs.declared.unit.Frame.{Frame}
use Rattle.vsu.specs.declared.unit.Vsu.{Vsu}
use Rattle.stems.specs.Stems.{all_but, bounce_answer, bounce_by, bounce_of, lent, rendered, shortest_of}
use Rattle.stems.proofs.MixLaws.{stem-at}
use Rattle.stems.proofs.StemsLaws.{answered, counter-below}
use Rattle.std.specs.Prelude.{Ok}

module _ (b : List ℕ) (cycles size : ℕ) (d : Deck) (m : Named) (r : InRun b (writes_in b) cycles size d m) (n : ℕ) (one two three four five six mix : List ℤ) where
  -- the answer is that of a play with a buffer as long as the shortest
  pub answers : (out : List ℤ) → length out ≡ shortest_of (length one) (length two) (length three) (length four) (length five) (length six) (length mix) → bounce_answer d.player n b (lent one two three four five six mix) ≡ answer_at (writes_in b) cycles size (play n out) m
  unfolding answer_of
  answers out e =
      sym (answered d.player n b one two three four five six mix)
      ∙ ap (play_answer d.player n b) (sym e)
      ∙ r.answers (play n out)

  module _ (accepted : bounce_answer d.player n b (lent one two three four five six mix) ≡ Ok tt) where
    module _ (mutes : ℕ) where
      span : frames_on (writes_in b) d.player.cycle (with_mutes d.player.unit mutes) n ≡ frames_in (writes_in b) mutes m.cycle (m.cycle + n)
      span =
          ap₂ (λ (c : ℕ) (u : Vsu). frames_on (writes_in b) c (with_mutes u mutes) n) r.cycle r.unit
          ∙ sym (frames-span (writes_in b) mutes m.cycle n)

      -- one of the seven has the run's frames of the span, with its mutes
      yielded : (out : List ℤ) → rendered d.player n b mutes out ≡ yields (writes_in b) mutes m.cycle (Ok tt) n out
      unfolding rendered yields
      yielded out =
          ap₂ (λ (fs : List Frame) (k : ℕ). sides fs ++ drop (k * 2) out) span
          (sym (frames-on-length (writes_in b) d.player.cycle (with_mutes d.player.unit mutes) (counter-below d.player n b (lent one two three four five six mix) accepted) n) ∙ ap length span)

    pub stem-yields : (k : ℕ) → k < 6 → get_or (bounce_of d.player n b (lent one two three four five six mix)).out.stems k [] ≡ yields (writes_in b) (all_but k) m.cycle (Ok tt) n (get_or (one ∷ two ∷ three ∷ four ∷ five ∷ six ∷ []) k [])
    unfolding bounce_by
    stem-yields k l =
        let own : List ℤ = get_or (one ∷ two ∷ three ∷ four ∷ five ∷ six ∷ []) k [] in
        rw accepted
        (stem-at d.player n b k (one ∷ two ∷ three ∷ four ∷ five ∷ six ∷ []) l ∙ yielded (all_but k) own)

    pub mix-yields : (bounce_of d.player n b (lent one two three four five six mix)).out.mix ≡ yields (writes_in b) 0 m.cycle (Ok tt) n mix
    unfolding bounce_by
    mix-yields = rw accepted (yielded 0 mix)
