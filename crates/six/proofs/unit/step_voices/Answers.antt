use Rattle.std.specs.Prelude.{◌≡◌, List, length}
use native.Mathlib.Omega.{arith}
use borrow.Author.Rules.{rules}
use Rattle.voice.specs.declared.channel_enum.Voice.{Voice}
use Rattle.six.proofs.Upto.{up_to-none, up_to-all}
use Rattle.six.proofs.CoreLaws.{step_voice, voice-more}
use Rattle.six.proofs.unit.step_voices.Goals as goal

pub returns : goal.returns
returns c =
    let l : List Voice = c.args.voices in
    let six : length l ≡ 6 = search (rules, c) in
    up_to-all step_voice l (voice-more l _ (voice-more l _ (voice-more l _ (voice-more l _ (voice-more l _ (voice-more l _ (up_to-none step_voice l) (omega arith)
    c.step_auto_deactivate.ensures c.step_sampling_frequency.ensures c.step_envelope.ensures) (omega arith)
    c.step_auto_deactivate-2.ensures c.step_sampling_frequency-2.ensures c.step_envelope-2.ensures) (omega arith)
    c.step_auto_deactivate-3.ensures c.step_sampling_frequency-3.ensures c.step_envelope-3.ensures) (omega arith)
    c.step_auto_deactivate-4.ensures c.step_sampling_frequency-4.ensures c.step_envelope-4.ensures) (omega arith)
    c.step_auto_deactivate-5.ensures c.step_sampling_frequency-5.ensures c.step_envelope-5.ensures) (omega arith)
    c.step_auto_deactivate-6.ensures c.step_sampling_frequency-6.ensures c.step_envelope-6.ensures) (omega arith)
