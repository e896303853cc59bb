-- The cases of the definitions of specs/Core.antt, over plain variables.
use Rattle.std.specs.Prelude.{◌≡◌, ℕ, zero, suc, ◌+◌, ◌^◌, ◌<◌, ◌≤◌, Bool, true, false, cond, ◌&&◌, ◌||◌, eqb, ltb, List, [], ◌∷◌, map, length, get_or, take, set, ℤ}
use mathlib.Core.Path.{refl, sym, ap, ◌∙◌}
use mathlib.Core.Bool.{true≢false}
use mathlib.Core.List.{map-map}
use native.Mathlib.Nat.{add-suc, add-zero, zero-div}
use native.Mathlib.Numerals.{add-one}
use native.Mathlib.Omega.{arith}
use borrow.Author.Tests.{eqb-true, ltb-true}
use lib.Seq.{take_all}
use Rattle.std.proofs.lemmas.List.Recursion.{is_sum_by, same_from_clauses}
use Rattle.std.specs.List.{list_any, sum_by}
use Rattle.common.specs.Bits.{bit}
use Rattle.common.specs.Channel.{channel_write, write_envelope, write_envelope_mode, write_high, write_interval, write_low, write_volumes}
use Rattle.laws.proofs.Cases.{each}
use Rattle.sweep.specs.SweepModulate.{restart, rewrite, sweep_write, write_mode, write_sweep}
use Rattle.voice.specs.ChannelEnum.{has_offset, heard, is_in, kind_write, noise_write, offsets_of, step_auto_stop, step_frequency, step_envelope, stop_voice, voice_write, wave_write}
use Rattle.voice.specs.declared.channel_enum.Kind.{Kind}
use Rattle.voice.specs.declared.channel_enum.Kind.TheVariants.{Wave, Swept, Noise}
use Rattle.voice.specs.declared.channel_enum.Voice.{Voice}
use Rattle.six.proofs.Upto.{up_to, up_to-more, up_to_by}
use Rattle.six.specs.Core.{off_noise, off_swept, off_wave, plays, any_plays, sweep_fifth, voices_after, voices_after_all, total, heard_left, heard_right, sums_of, audible, silenced, silenced_from, unmuted, unmuted_from}
use Rattle.six.specs.declared.unit.Sums.{Sums}

-- whether any voice plays, in the library's words
pub any-plays : (vs : List Voice) → list_any plays vs ≡ any_plays vs
unfolding any_plays
any-plays = same_from_clauses (list_any plays) any_plays (λ v b. plays v || b) refl (λ _ _. refl) (λ _ _. refl)

-- the voices' sums, in the library's words

summed : (f : Voice → ℕ) (vs : List Voice) (i : ℕ) → length vs ≤ i → {x : ℕ} → x ≡ sum_by f (take i vs) → x ≡ total (map f vs)
summed f vs i h p =
    p ∙ ap (sum_by f) (take_all i vs h) ∙ sym (is_sum_by (λ l. total (map f l)) f refl (λ _ _. refl) vs)

pub sums-are : (waves : List ℕ) (vs : List Voice) (i : ℕ) → length vs ≤ i → {x y : ℕ} → x ≡ sum_by (heard_left waves) (take i vs) → y ≡ sum_by (heard_right waves) (take i vs) → ◌≡◌ {A = Sums} (record { left = x; right = y }) (sums_of waves vs)
unfolding sums_of
sums-are waves vs i h p q = λ j. record { left = summed (heard_left waves) vs i h p j; right = summed (heard_right waves) vs i h q j }

-- steps 1 to 3

-- three maps over the voices are one map of the three steps
pub one_map : {A : Type 0} (f g h : A → A) (l : List A) → map f (map g (map h l)) ≡ map (λ (x : A). f (g (h x))) l
one_map f g h l = map-map f g (map h l) ∙ map-map (λ x. f (g x)) h l

abbrev pub step_voice : Voice → Voice
step_voice v = step_envelope (step_frequency (step_auto_stop v))

-- one more voice goes through its three
pub voice-more : {m : List Voice} (l : List Voice) {j : ℕ} (d : Voice) {a b w : Voice} → m ≡ up_to step_voice j l → j < length l → a ≡ step_auto_stop (get_or m j d) → b ≡ step_frequency a → w ≡ step_envelope b → set m j w ≡ up_to step_voice (j + 1) l
voice-more l d e h p q r = up_to-more step_voice l d e h (r ∙ ap step_envelope (q ∙ ap step_frequency p))

-- a cycle: the walk, then the sweep
pub after-walk : (m : List ℤ) (vs : List Voice) {ws r : List Voice} → ws ≡ map step_voice vs → r ≡ sweep_fifth m ws → r ≡ voices_after m vs
unfolding voices_after
after-walk m vs p q = q ∙ ap (sweep_fifth m) (p ∙ sym (one_map step_envelope step_frequency step_auto_stop vs))

-- cycles one after the other
pub one-cycle-more : (m : List ℤ) (n : ℕ) (vs : List Voice) {ws xs : List Voice} → ws ≡ voices_after_all m n vs → xs ≡ voices_after m ws → xs ≡ voices_after_all m (n + 1) vs
unfolding voices_after_all
one-cycle-more m n vs p q = rw (add-one n, ← p) q

-- n cycles, then k
pub cycles-add : (m : List ℤ) (n k : ℕ) (vs : List Voice) → voices_after_all m (n + k) vs ≡ voices_after_all m k (voices_after_all m n vs)
unfolding voices_after_all
cycles-add m n zero vs = rw add-zero
cycles-add m n (suc k) vs = rw add-suc (ap (voices_after m) (cycles-add m n k vs))

-- mutes

-- a voice that is stopped adds nothing
stopped-adds : (waves : List ℕ) (volume : ℕ) (v : Voice) → heard waves volume (stop_voice v) ≡ 0
unfolding heard
stopped-adds waves volume v = refl

-- what the voices from channel k on add, by f, with the muted ones stopped: what those that are not muted add
added : (f : Voice → ℕ) → ((v : Voice) → f (stop_voice v) ≡ 0) → (mutes k : ℕ) (vs : List Voice) → total (map f (silenced_from mutes k vs)) ≡ total (map f (unmuted_from mutes k vs))
unfolding silenced_from unmuted_from
added f z mutes k [] = refl
added f z mutes k (v ∷ vs) = go (bit k mutes) (added f z mutes (suc k) vs)
  where
    go : (t : Bool) → total (map f (silenced_from mutes (suc k) vs)) ≡ total (map f (unmuted_from mutes (suc k) vs)) → f (cond t (stop_voice v) v) + total (map f (silenced_from mutes (suc k) vs)) ≡ total (map f (cond t (unmuted_from mutes (suc k) vs) (v ∷ unmuted_from mutes (suc k) vs)))
    go true e = omega (arith, z v, e)
    go false e = omega (arith, e)

-- "a muted voice adds nothing to a frame": the sums are those of the voices that are not muted
pub sums-unmuted : (waves : List ℕ) (mutes : ℕ) (vs : List Voice) → sums_of waves (silenced mutes vs) ≡ sums_of waves (unmuted mutes vs)
unfolding sums_of
sums-unmuted waves mutes vs =
    λ j. record { left = added (heard_left waves) (λ v. stopped-adds waves _ v) mutes 0 vs j; right = added (heard_right waves) (λ v. stopped-adds waves _ v) mutes 0 vs j }

-- and no larger than those of all
less : (f : Voice → ℕ) → ((v : Voice) → f (stop_voice v) ≡ 0) → (mutes k : ℕ) (vs : List Voice) → total (map f (silenced_from mutes k vs)) ≤ total (map f vs)
unfolding silenced_from
less f z mutes k [] = omega arith
less f z mutes k (v ∷ vs) = go (bit k mutes) (less f z mutes (suc k) vs)
  where
    go : (t : Bool) → total (map f (silenced_from mutes (suc k) vs)) ≤ total (map f vs) → f (cond t (stop_voice v) v) + total (map f (silenced_from mutes (suc k) vs)) ≤ f v + total (map f vs)
    go true h = omega (arith, z v, h)
    go false h = omega (arith, h)

module _ (waves : List ℕ) (mutes : ℕ) (vs : List Voice) where
  pub silenced-left : (sums_of waves (silenced mutes vs)).left ≤ (sums_of waves vs).left
  unfolding sums_of
  silenced-left = less (heard_left waves) (λ v. stopped-adds waves _ v) mutes 0 vs

  pub silenced-right : (sums_of waves (silenced mutes vs)).right ≤ (sums_of waves vs).right
  unfolding sums_of
  silenced-right = less (heard_right waves) (λ v. stopped-adds waves _ v) mutes 0 vs

-- with nothing muted, those of all
pub none-muted : (k : ℕ) (vs : List Voice) → unmuted_from 0 k vs ≡ vs
unfolding unmuted_from
none-muted k [] = refl
none-muted k (v ∷ vs) =
    let z : bit k 0 ≡ false = rw (zero-div (2 ^ k)) in rw z (ap (λ (l : List Voice). v ∷ l) (none-muted (suc k) vs))

-- the loop has gone through all of them
all-silenced : (mutes j k : ℕ) (vs : List Voice) → length vs ≤ j → up_to_by (audible mutes) j k vs ≡ silenced_from mutes k vs
unfolding up_to_by silenced_from
all-silenced mutes zero k [] h = refl
all-silenced mutes zero k (v ∷ vs) h = absurd (omega arith)
all-silenced mutes (suc j) k [] h = refl
all-silenced mutes (suc j) k (v ∷ vs) h = ap (λ (l : List Voice). audible mutes k v ∷ l) (all-silenced mutes j (suc k) vs (omega arith))

pub silenced-all : (mutes : ℕ) {m : List Voice} (vs : List Voice) {j : ℕ} → m ≡ up_to_by (audible mutes) j 0 vs → length vs ≤ j → m ≡ silenced mutes vs
silenced-all mutes vs {j} e h = e ∙ all-silenced mutes j 0 vs h

-- Every offset that a kind has is a register: there the byte 0xFF changes the voice of that kind that power-on has. By `no-offset` of `voice`
-- no other offset does, so the list of offsets and the writes can't drift apart.

abbrev kind_trace : Kind → ℕ
kind_trace (Wave bank position) = bank
kind_trace (Swept bank position sweep) = bank + sweep.shift
kind_trace (Noise shift tap output) = 0

-- a number that is 0 at power-on
abbrev trace : Voice → ℕ
trace v =
    cond v.channel.live.playing 1 0 + v.channel.left + v.channel.pitch.frequency + v.channel.envelope.level + cond v.channel.envelope.on 1 0 + kind_trace v.kind

abbrev all_leave : Voice → List ℕ → Bool
all_leave v [] = true
all_leave v (o ∷ os) = ltb 0 (trace (voice_write o 0xFF v)) && all_leave v os

leaves : (v : Voice) (os : List ℕ) → all_leave v os ≡ true → (o : ℕ) → is_in o os ≡ true → 0 < trace (voice_write o 0xFF v)
leaves v [] a o h = absurd (true≢false (sym h))
leaves v (p ∷ os) a o h =
    each (ltb 0 (trace (voice_write p 0xFF v))) (all_leave v os ∷ []) a
    (λ k. go (eqb o p) refl k.0 (λ f. leaves v os k.1.0 o f))
  where
    go : (t : Bool) → eqb o p ≡ t → ltb 0 (trace (voice_write p 0xFF v)) ≡ true → (is_in o os ≡ true → 0 < trace (voice_write o 0xFF v)) → 0 < trace (voice_write o 0xFF v)
    go true e f r = rw (eqb-true o p e) (ltb-true 0 (trace (voice_write p 0xFF v)) f)
    go false e f r = r (rw e at h)

pub offset-moves : (v : Voice) → trace v ≡ 0 → all_leave v (offsets_of v.kind) ≡ true → (o : ℕ) → has_offset o v.kind ≡ true → voice_write o 0xFF v ≡ v → ⊥
offset-moves v z a o h e = omega (arith, leaves v (offsets_of v.kind) a o h, ap trace e, z)

pub wave-moves : (o : ℕ) → has_offset o off_wave.kind ≡ true → voice_write o 0xFF off_wave ≡ off_wave → ⊥
unfolding offsets_of voice_write kind_write wave_write channel_write write_interval write_volumes write_low write_high write_envelope write_envelope_mode
wave-moves = offset-moves off_wave refl refl

pub swept-moves : (o : ℕ) → has_offset o off_swept.kind ≡ true → voice_write o 0xFF off_swept ≡ off_swept → ⊥
unfolding offsets_of voice_write kind_write wave_write channel_write write_interval write_volumes write_low write_high write_envelope write_envelope_mode sweep_write restart rewrite write_mode write_sweep
swept-moves = offset-moves off_swept refl refl

pub noise-moves : (o : ℕ) → has_offset o off_noise.kind ≡ true → voice_write o 0xFF off_noise ≡ off_noise → ⊥
unfolding offsets_of voice_write kind_write noise_write channel_write write_interval write_volumes write_low write_high write_envelope write_envelope_mode
noise-moves = offset-moves off_noise refl refl
