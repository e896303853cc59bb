-- The six voices together, in document 01's order and words.
use Rattle.std.specs.Prelude.{ℕ, zero, suc, ◌+◌, Bool, false, cond, ◌&&◌, ◌||◌, List, [], ◌∷◌, map, ℤ, slice_index_or, slice_set}
use Rattle.common.specs.Bits.{bit}
use Rattle.voice.specs.ChannelEnum.{voice_of, stop_voice, step_auto_stop, step_frequency, step_envelope, step_sweep, heard, wave_in_range, swept_in_range, noise_in_range}
use Rattle.common.specs.declared.channel.Channel.{Channel}
use Rattle.voice.specs.declared.channel_enum.Kind.TheVariants.{Wave, Swept, Noise}
use Rattle.voice.specs.declared.channel_enum.Voice.{Voice}
use Rattle.six.specs.declared.unit.Sums.{Sums}

-- "Power-on: all zero and off, tap 14."

abbrev pub off_channel : Channel
off_channel =
    record {
      live = record { tick = 0; interval = 0; counter = 0; auto = false; playing = false };
      pitch = record { tick = 0; frequency = 0; counter = 0 };
      envelope = record { tick = 0; interval = 0; step = 0; level = 0; reload = 0; up = false; on = false; looped = false };
      left = 0;
      right = 0;
    }

abbrev pub off_wave : Voice
off_wave = voice_of off_channel (Wave 0 0)

abbrev pub off_swept : Voice
off_swept =
    voice_of off_channel
    (Swept 0 0
    (record {
      step = 0;
      last = 0;
      current = 0;
      next = 0;
      interval = 0;
      shift = 0;
      counter = 0;
      index = 0;
      enable = false;
      looped = false;
      modulate = false;
      slow = false;
      up = false;
    }))

abbrev pub off_noise : Voice
off_noise = voice_of off_channel (Noise 0 14 false)

abbrev pub off_voices : List Voice
off_voices = off_wave ∷ off_wave ∷ off_wave ∷ off_wave ∷ off_swept ∷ off_noise ∷ []

-- a voice of the six; off_wave past the last
abbrev pub voice_at : ℕ → List Voice → Voice
voice_at k vs = slice_index_or vs k off_wave

-- What holds a write off: "any channel plays", "channel 5 (index 4) plays".

abbrev pub plays : Voice → Bool
plays v = v.channel.live.playing

unfoldable pub any_plays : List Voice → Bool
any_plays [] = false
any_plays (v ∷ vs) = plays v || any_plays vs

-- One cycle, in this order.

-- step 4 is channel 5's alone
unfoldable pub sweep_fifth : List ℤ → List Voice → List Voice
sweep_fifth m vs = slice_set vs 4 (step_sweep m (voice_at 4 vs))

-- steps 1 to 4
unfoldable pub voices_after : List ℤ → List Voice → List Voice
voices_after m vs = sweep_fifth m (map step_envelope (map step_frequency (map step_auto_stop vs)))

-- the same n times
unfoldable pub voices_after_all : List ℤ → ℕ → List Voice → List Voice
voices_after_all m zero vs = vs
voices_after_all m (suc n) vs = voices_after m (voices_after_all m n vs)

-- The frame.

abbrev pub total : List ℕ → ℕ
total [] = 0
total (x ∷ xs) = x + total xs

abbrev pub heard_left : List ℕ → Voice → ℕ
heard_left waves v = heard waves v.channel.left v

abbrev pub heard_right : List ℕ → Voice → ℕ
heard_right waves v = heard waves v.channel.right v

-- "Add the playing voices"
unfoldable pub sums_of : List ℕ → List Voice → Sums
sums_of waves vs = record { left = total (map (heard_left waves) vs); right = total (map (heard_right waves) vs) }

-- Mutes: "six mute bits, bit k for channel k; a muted voice adds nothing to a frame".

-- a channel's voice as a frame takes it: one that is muted as if it were stopped
abbrev pub audible : ℕ → ℕ → Voice → Voice
audible mutes k v = cond (bit k mutes) (stop_voice v) v

-- the voices of the channels from k on
unfoldable pub silenced_from : ℕ → ℕ → List Voice → List Voice
silenced_from mutes k [] = []
silenced_from mutes k (v ∷ vs) = audible mutes k v ∷ silenced_from mutes (suc k) vs

abbrev pub silenced : ℕ → List Voice → List Voice
silenced mutes vs = silenced_from mutes 0 vs

-- those of them that are not muted
unfoldable pub unmuted_from : ℕ → ℕ → List Voice → List Voice
unmuted_from mutes k [] = []
unmuted_from mutes k (v ∷ vs) = cond (bit k mutes) (unmuted_from mutes (suc k) vs) (v ∷ unmuted_from mutes (suc k) vs)

abbrev pub unmuted : ℕ → List Voice → List Voice
unmuted mutes vs = unmuted_from mutes 0 vs

-- Range rules.

-- "Channels 0 to 3 are wave, 4 wave with sweep, 5 noise"
unfoldable pub voices_in_range : List Voice → Bool
voices_in_range vs =
    wave_in_range (voice_at 0 vs) && wave_in_range (voice_at 1 vs) && wave_in_range (voice_at 2 vs) && wave_in_range (voice_at 3 vs) && swept_in_range (voice_at 4 vs) && noise_in_range (voice_at 5 vs)
