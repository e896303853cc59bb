-- What the code does, by the player's contracts: a mute and a play of each of the seven, all answered alike.
use Prim.Native.Nat.{ℕ, ◌*◌, ◌/◌, ◌≤◌, min}
use mathlib.Core.Path.{◌≡◌, refl, sym, ap, ◌∙◌}
use mathlib.Core.Bool.{Bool, true, false, ◌&&◌}
use mathlib.Core.List.{List, [], ◌∷◌, ◌++◌, append_assoc}
use native.Mathlib.Omega.{arith}
use borrow.Author.Tests.{le-leb, le-ltb, leb-false, leb-true, lt-leb}
use lib.IntN.{ℤ}
use lib.ListN.{drop, length, take, take-append-drop}
use lib.Seq.{drop-append-le, length-take-le}
use Rattle.deck.proofs.PlayerLaws as deck
use Rattle.deck.specs.Player.{ended, PlayGives, made_by, made_of, mute_answer, mute_of, muted, play_answer, play_by, play_of, standing_answer, turn_by, writes_in}
use Rattle.deck.specs.Unbroken.{frames_on}
use Rattle.deck.specs.declared.Played.{Played}
use Rattle.deck.specs.declared.Player.{Player}
use Rattle.refusal.proofs.RefusalLaws as order
use Rattle.refusal.specs.declared.Refusal.{Refusal}
use Rattle.refusal.specs.Refusal.{fault, ◌then◌, Answer, Tells}
use Rattle.vsu.proofs.MutesLaws.{mutes-keep}
use Rattle.vsu.proofs.RangeLaws.{range-facts}
use Rattle.vsu.specs.Core.{fits_in, frames_due, in_range, sides, unit_answer, with_mutes}
use Rattle.vsu.specs.declared.unit.Vsu.{Vsu}
use Rattle.stems.specs.Stems.{Buffers, all_fit, bounce_answer, bounce_by, bounce_of, frames_by, lent, rendered, rendered_by, shortest_of, stems_from}
use Rattle.std.specs.Prelude.{Result, Ok, Err}

-- one of the seven

abbrev frames_in : Result Played Refusal → Result ℕ Refusal
frames_in (Ok made) = Ok made.frames
frames_in (Err why) = Err why

module _ (p : Player) (n : ℕ) (b : List ℕ) (mutes : ℕ) (m : mutes ≤ 63) where
  taken : in_range p.unit ≡ true → (mute_of p mutes).player ≡ muted p mutes
  unfolding turn_by mute_answer unit_answer fault ◌then◌
  taken h = rw (h, le-ltb 63 mutes m)

  kept : in_range p.unit ≡ false → (mute_of p mutes).player ≡ p
  unfolding turn_by mute_answer unit_answer fault ◌then◌
  kept h = rw h

  muted-alike : (room : ℕ) → in_range p.unit ≡ true → play_answer (muted p mutes) n b room ≡ play_answer p n b room
  unfolding play_answer standing_answer unit_answer
  muted-alike room h = rw (h, mutes-keep p.unit mutes m h)

  -- the mutes of a record do not matter to its play's answer, but that they are in range
  answers-alike : (room : ℕ) → play_answer (mute_of p mutes).player n b room ≡ play_answer p n b room
  answers-alike room = go (in_range p.unit) refl
    where
      go : (t : Bool) → in_range p.unit ≡ t → play_answer (mute_of p mutes).player n b room ≡ play_answer p n b room
      go true h = rw (taken h) (muted-alike room h)
      go false h = rw (kept h)

  module _ (room : ℕ) (out : List ℤ) (l : room ≤ length out) where
    -- what the play gives of the front that it is lent
    abbrev Gives : Answer → PlayGives → Type 0
    Gives a g = (frames_in (made_of g.played) ≡ frames_by a (frames_due p.unit n)) × (g.out ++ drop room out ≡ rendered_by a p n b mutes out)

    joined : frames_due p.unit n * 2 ≤ length (take room out) → (fs : List ℤ) → (fs ++ drop (frames_due p.unit n * 2) (take room out)) ++ drop room out ≡ fs ++ drop (frames_due p.unit n * 2) out
    joined h fs =
        append_assoc fs (drop (frames_due p.unit n * 2) (take room out)) (drop room out)
        ∙ ap (λ (t : List ℤ). fs ++ t)
        (sym (drop-append-le (frames_due p.unit n * 2) (take room out) (drop room out) h) ∙ ap (drop (frames_due p.unit n * 2)) (take-append-drop room out))

    by_answer : (a : Answer) → play_answer p n b room ≡ a → Gives a (play_by a (mute_of p mutes).player n b (take room out))
    unfolding play_by made_by frames_by rendered_by rendered
    by_answer (Ok done) e =
        let h = (deck.stands p b (deck.play-stands p b n room e)).ranged in
        let f = deck.play-fits p b n room e in
        rw (taken h) (refl, joined (omega (arith, f, length-take-le room out l)) (sides (frames_on (writes_in b) p.cycle (with_mutes p.unit mutes) n)))
    by_answer (Err why) e = (refl, take-append-drop room out)

    module _ {q : Player} (e : q ≡ (mute_of p mutes).player) {r : Result Played Refusal} (f : r ≡ made_of (play_of q n b (take room out)).played) {after : List ℤ} (g : after ≡ (play_of q n b (take room out)).out) where
      made : (frames_in r ≡ frames_by (play_answer p n b room) (frames_due p.unit n)) × (after ++ drop room out ≡ rendered_by (play_answer p n b room) p n b mutes out)
      made =
          let a : play_answer q n b (length (take room out)) ≡ play_answer p n b room =
          rw (length-take-le room out l, e) (answers-alike room) in
          let k = by_answer (play_answer p n b room) refl in
          (rw (f, a, e) k.0, rw (g, a, e) k.1)

      pub made-none : {why : Refusal} → r ≡ Err why → (Err why ≡ frames_by (play_answer p n b room) (frames_due p.unit n)) × (after ++ drop room out ≡ rendered_by (play_answer p n b room) p n b mutes out)
      made-none w = (rw w at made.0, made.1)

      pub made-some : {m : Played} → r ≡ Ok m → (Ok m.frames ≡ frames_by (play_answer p n b room) (frames_due p.unit n)) × (after ++ drop room out ≡ rendered_by (play_answer p n b room) p n b mutes out)
      made-some w = (rw w at made.0, made.1)

-- the seven: the shortest has room where all of them have

module _ (n : ℕ) (u : Vsu) where
  fits_both : (a c : ℕ) → fits_in n u (min a c) ≡ (fits_in n u a && fits_in n u c)
  fits_both a c = go (fits_in n u a) (fits_in n u c) refl refl
    where
      go : (s t : Bool) → fits_in n u a ≡ s → fits_in n u c ≡ t → fits_in n u (min a c) ≡ (s && t)
      go true true d e = le-leb (frames_due u n) (min a c / 2) (omega (arith, leb-true (frames_due u n) (a / 2) d, leb-true (frames_due u n) (c / 2) e))
      go true false d e = lt-leb (frames_due u n) (min a c / 2) (omega (arith, leb-false (frames_due u n) (c / 2) e))
      go false t d e = lt-leb (frames_due u n) (min a c / 2) (omega (arith, leb-false (frames_due u n) (a / 2) d))

  last : (t : Bool) → (t && true) ≡ t
  last true = refl
  last false = refl

  module _ (one two three four five six mix : List ℤ) where
    fits_all : fits_in n u (shortest_of (length one) (length two) (length three) (length four) (length five) (length six) (length mix)) ≡ all_fit n u (mix ∷ one ∷ two ∷ three ∷ four ∷ five ∷ six ∷ [])
    unfolding all_fit
    fits_all =
        rw (fits_both (length mix) (min (length one) (min (length two) (min (length three) (min (length four) (min (length five) (length six)))))), fits_both (length one) (min (length two) (min (length three) (min (length four) (min (length five) (length six))))), fits_both (length two) (min (length three) (min (length four) (min (length five) (length six)))), fits_both (length three) (min (length four) (min (length five) (length six))), fits_both (length four) (min (length five) (length six)), fits_both (length five) (length six), last (fits_in n u (length six)))

module _ (p : Player) (n : ℕ) (b : List ℕ) (one two three four five six mix : List ℤ) where
  abbrev all : Buffers
  all = lent one two three four five six mix

  abbrev least : ℕ
  least = shortest_of (length one) (length two) (length three) (length four) (length five) (length six) (length mix)

  -- so the seven plays are answered as the call is to be
  pub answered : play_answer p n b (shortest_of (length one) (length two) (length three) (length four) (length five) (length six) (length mix)) ≡ bounce_answer p n b (lent one two three four five six mix)
  unfolding play_answer bounce_answer
  answered = rw (fits_all n p.unit one two three four five six mix)

  abbrev Bounces : Result ℕ Refusal → Buffers → Type 0
  Bounces r out =
      (r ≡ frames_by (bounce_of p n b all).bounced.answer (bounce_of p n b all).bounced.frames)
      × (p ≡ (bounce_of p n b all).bounced.player)
      × (out ≡ (bounce_of p n b all).out)
      × Tells (ended r) (bounce_answer p n b all)

  module _ {room : ℕ} (e : room ≡ least) where
    -- of one of them the play leaves this
    abbrev Left : ℕ → List ℤ → List ℤ → Type 0
    Left mutes before after = after ≡ rendered_by (play_answer p n b room) p n b mutes before

    as-call : bounce_answer p n b all ≡ play_answer p n b room
    as-call = rw e (sym answered)

    -- the mix's play, and what it has told
    module _ {r : Result ℕ Refusal} (f : r ≡ frames_by (play_answer p n b room) (frames_due p.unit n)) {mix' : List ℤ} (g : Left 0 mix mix') where
      pub unbounced : {why : Refusal} → r ≡ Err why → Bounces (Err why) (lent one two three four five six mix')
      unfolding bounce_by frames_by rendered_by
      unbounced {why} w =
          let a : play_answer p n b room ≡ Err why = go (play_answer p n b room) (sym w ∙ f) in
          (rw (as-call, a), rw (as-call, a), rw (as-call, a, (rw a at g)), order.tells (sym (as-call ∙ a)))
        where
          go : (x : Answer) → Err why ≡ frames_by x (frames_due p.unit n) → x ≡ Err why
          go (Ok done) h = cc
          go (Err y) h = cc

      pub bounced : {frames : ℕ} → r ≡ Ok frames → {one' two' three' four' five' six' : List ℤ} → Left 62 one one' → Left 61 two two' → Left 59 three three' →
          Left 55 four four' → Left 47 five five' → Left 31 six six' → Bounces (Ok frames) (lent one' two' three' four' five' six' mix')
      unfolding bounce_by stems_from frames_by rendered_by
      bounced {frames} w h i j k l m =
          let s : (play_answer p n b room ≡ Ok tt) × (frames ≡ frames_due p.unit n) = go (play_answer p n b room) (sym w ∙ f) in
          (rw (as-call, s.0, s.1), rw (as-call, s.0), rw (as-call, s.0, (rw s.0 at g), (rw s.0 at h), (rw s.0 at i), (rw s.0 at j), (rw s.0 at k), (rw s.0 at l), (rw s.0 at m)), order.tells (sym (as-call ∙ s.0)))
        where
          go : (x : Answer) → Ok frames ≡ frames_by x (frames_due p.unit n) → (x ≡ Ok tt) × (frames ≡ frames_due p.unit n)
          go (Ok done) h = (refl, cc)
          go (Err y) h = let z : ◌≡◌ {A = ℕ} 0 1 = cc in absurd (omega arith)

-- the record of an accepted call is in range

module _ (p : Player) (n : ℕ) (b : List ℕ) (o : Buffers) (a : bounce_answer p n b o ≡ Ok tt) where
  pub bounce-ranged : in_range p.unit ≡ true
  unfolding bounce_answer
  bounce-ranged = (deck.stands p b (order.both-on (standing_answer p b) _ a).0).ranged

  pub counter-below : p.unit.output ≤ 479
  counter-below = (range-facts p.unit bounce-ranged).output
