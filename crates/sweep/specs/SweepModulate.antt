-- Channel 5's sweep and modulation, in document 01's words.
use Rattle.std.specs.Prelude.{ℕ, ◌+◌, ◌-◌, ◌/◌, ◌%◌, ◌^◌, Bool, false, cond, not, ◌&&◌, List, eqb, leb, ltb, get_or, ℤ, pos}
use Rattle.common.specs.Bits.{bits, bit, with_low, with_high, addend}
use Rattle.common.specs.Channel.{play_off}
use Rattle.sweep.specs.Constants.{sweep_slow, sweep_fast}
use Rattle.common.specs.declared.channel.Channel.{Channel}
use Rattle.sweep.specs.declared.sweep_modulate.SweepModulate.{SweepModulate}
use Rattle.sweep.specs.declared.sweep_modulate.Stepped.{Stepped}

-- A record with some of its fields changed: each name says which.

abbrev pub with_step_counter : SweepModulate → ℕ → ℕ → SweepModulate
with_step_counter s step counter =
    record {
      step = step;
      last = s.last;
      current = s.current;
      next = s.next;
      interval = s.interval;
      shift = s.shift;
      counter = counter;
      index = s.index;
      enable = s.enable;
      looped = s.looped;
      modulate = s.modulate;
      slow = s.slow;
      up = s.up;
    }

abbrev pub with_frequencies : SweepModulate → ℕ → ℕ → ℕ → SweepModulate
with_frequencies s last current next =
    record {
      step = s.step;
      last = last;
      current = current;
      next = next;
      interval = s.interval;
      shift = s.shift;
      counter = s.counter;
      index = s.index;
      enable = s.enable;
      looped = s.looped;
      modulate = s.modulate;
      slow = s.slow;
      up = s.up;
    }

abbrev pub with_index_enable : SweepModulate → ℕ → Bool → SweepModulate
with_index_enable s index enable =
    record {
      step = s.step;
      last = s.last;
      current = s.current;
      next = s.next;
      interval = s.interval;
      shift = s.shift;
      counter = s.counter;
      index = index;
      enable = enable;
      looped = s.looped;
      modulate = s.modulate;
      slow = s.slow;
      up = s.up;
    }

-- Register writes.

-- 0x00: "On channel 5 the sweep step counter and modulation index become 0."
unfoldable pub restart : SweepModulate → SweepModulate
restart s = with_index_enable (with_step_counter s 0 s.counter) 0 s.enable

-- 0x08 and 0x0C: "On channel 5 these two also change the last written and the next frequency, never the current one."
unfoldable pub rewrite : (ℕ → ℕ) → SweepModulate → SweepModulate
rewrite f s = with_frequencies s (f s.last) s.current (f s.next)

-- 0x14: "Channel 5: bit 4 modulate, 5 loop table, 6 enable."
unfoldable pub write_mode : ℕ → SweepModulate → SweepModulate
write_mode b s =
    record {
      step = s.step;
      last = s.last;
      current = s.current;
      next = s.next;
      interval = s.interval;
      shift = s.shift;
      counter = s.counter;
      index = s.index;
      enable = bit 6 b;
      looped = bit 5 b;
      modulate = bit 4 b;
      slow = s.slow;
      up = s.up;
    }

-- "0x1C, channel 5: bits 0 to 2 are the shift, bit 3 the direction (set = up), 4 to 6 the interval, 7 the slow clock."
unfoldable pub write_sweep : ℕ → SweepModulate → SweepModulate
write_sweep b s =
    record {
      step = s.step;
      last = s.last;
      current = s.current;
      next = s.next;
      interval = bits 4 3 b;
      shift = bits 0 3 b;
      counter = s.counter;
      index = s.index;
      enable = s.enable;
      looped = s.looped;
      modulate = s.modulate;
      slow = bit 7 b;
      up = bit 3 b;
    }

unfoldable pub sweep_write : ℕ → ℕ → SweepModulate → SweepModulate
sweep_write offset b s =
    cond (eqb offset 0x00) (restart s)
    (cond (eqb offset 0x08) (rewrite (with_low b) s)
    (cond (eqb offset 0x0C) (rewrite (with_high b) s)
    (cond (eqb offset 0x14) (write_mode b s) (cond (eqb offset 0x1C) (write_sweep b s) s))))

-- One cycle.

-- "modulate (next = last written + entry, mod 2048; index + 1 mod 32, but at index 31 without loop the index stays and enable clears)"
unfoldable pub modulate_once : List ℤ → SweepModulate → SweepModulate
modulate_once entries s =
    let t : SweepModulate = with_frequencies s s.last s.current ((s.last + addend (get_or entries s.index (pos 0))) % 2048) in
    cond (leb 31 s.index && not s.looped) (with_index_enable t s.index false) (with_index_enable t ((s.index + 1) % 32) s.enable)

-- "sweep by current/2^shift, cut to whole. Up past 2047: play off, next kept. Down: current - that part."
unfoldable pub sweep_once : Channel → SweepModulate → Stepped
sweep_once c s =
    let part : ℕ = s.current / 2 ^ s.shift in
    cond s.up
    (cond (ltb 2047 (s.current + part)) (record { sweep = s; channel = play_off c })
    (record { sweep = with_frequencies s s.last s.current (s.current + part); channel = c }))
    (record { sweep = with_frequencies s s.last s.current (s.current - part); channel = c })

-- "current = next; then, only if playing, enabled and interval not 0, either modulate" or "sweep"
unfoldable pub sweep_due : List ℤ → Channel → SweepModulate → Stepped
sweep_due entries c s =
    let t : SweepModulate = with_frequencies s s.last s.next s.next in
    cond (c.live.playing && s.enable && not (eqb s.interval 0))
    (cond s.modulate (record { sweep = modulate_once entries t; channel = c }) (sweep_once c t))
    (record { sweep = t; channel = c })

-- "the interval counter goes up; when that is at least the interval it becomes 0 and:"
unfoldable pub sweep_ticked : List ℤ → Channel → SweepModulate → Stepped
sweep_ticked entries c s =
    cond (leb s.interval (s.counter + 1)) (sweep_due entries c (with_step_counter s 0 0))
    (record { sweep = with_step_counter s 0 (s.counter + 1); channel = c })

abbrev pub sweep_period : SweepModulate → ℕ
sweep_period s = cond s.slow sweep_slow sweep_fast

-- "4. Channel 5: step counter +1; at its period or beyond it becomes 0"
unfoldable pub sweep_step : List ℤ → Channel → SweepModulate → Stepped
sweep_step entries c s =
    cond (leb (sweep_period s) (s.step + 1)) (sweep_ticked entries c s)
    (record { sweep = with_step_counter s (s.step + 1) s.counter; channel = c })

-- Range rules.

-- "sweep shift and interval 0..7, interval counter 0..6, step counter 0..153,608"; the index 0..31 and the three frequencies 0..2047
unfoldable pub sweep_in_range : SweepModulate → Bool
sweep_in_range s =
    leb s.step 153608 && leb s.last 2047 && leb s.current 2047 && leb s.next 2047 && leb s.interval 7 && leb s.shift 7 && leb s.counter 6
    && leb s.index 31
