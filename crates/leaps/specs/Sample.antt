-- n samples on.
use Rattle.std.specs.Prelude.{ℕ, zero, suc}
use Rattle.voice.specs.ChannelEnum.{next_sample}
use Rattle.voice.specs.declared.channel_enum.Kind.{Kind}

unfoldable pub samples_on : ℕ → Kind → Kind
samples_on zero k = k
samples_on (suc n) k = next_sample (samples_on n k)
