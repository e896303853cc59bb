-- How many cycles all voices can go at once. What an inner contract goes by; nothing to believe: the engine promises the cycle engine's answers.
use Rattle.std.specs.Prelude.{ℕ, List, [], ◌∷◌}
use Rattle.leaps.specs.ChannelEnum.{voice_far}
use Rattle.leaps.specs.Distance.{least, never}
use Rattle.voice.specs.declared.channel_enum.Voice.{Voice}

-- the nearest of these voices, and of those before, the nearest of which is d away
unfoldable pub far_from : ℕ → List Voice → ℕ
far_from d [] = d
far_from d (v ∷ vs) = far_from (least d (voice_far v)) vs

abbrev pub voices_far : List Voice → ℕ
voices_far vs = far_from never vs
