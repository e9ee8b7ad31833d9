-- One effect in one scan. Document 01, "Settings, row, state" (the state codes) and "The rules of one scan"; document 02, L3 (Bad causes).
use Rattle.std.specs.Prelude.{ℕ, ◌-◌, Bool, true, false, cond, not, ◌&&◌, ◌||◌, leb, ltb, eqb}
use Rattle.std.specs.Int.Bits.{bit_or}
use Rattle.rules.specs.declared.EffectState.{EffectState}
use Rattle.rules.specs.declared.EffectState.TheVariants.{Tripped, WaitReset, Ready, WaitStart, Normal, Delayed}
use Rattle.rules.specs.declared.Slot.{Slot}
use Rattle.rules.specs.Signals.{Signals, Asks}

-- the state codes
abbrev pub code : EffectState → ℕ
code Tripped = 0
code WaitReset = 1
code Ready = 2
code WaitStart = 3
code Normal = 4
code Delayed = 5

-- the highest code; a number above it is the code of no state
abbrev pub most_code : ℕ
most_code = 5

abbrev pub same : EffectState → EffectState → Bool
same p q = eqb (code p) (code q)

-- ## The nine rules

-- 4. Tripped: active, stays. Else with require reset: Ready if reset permit, else Wait-reset. Without: Normal if start permit, else Wait-start.
abbrev pub rule4 : Asks → EffectState
rule4 a =
    cond a.active Tripped
    (cond a.require (cond a.permit Ready WaitReset) (cond a.start Normal WaitStart))

-- 5. Wait-reset: active, Tripped; reset permit, Ready; else stays. Require reset is not read.
abbrev pub rule5 : Asks → EffectState
rule5 a = cond a.active Tripped (cond a.permit Ready WaitReset)

-- 6. Ready: active, Tripped; no reset permit, Wait-reset; reset and start permit, Normal; reset alone, Wait-start; else stays. Require reset is not read.
abbrev pub rule6 : Asks → EffectState
rule6 a =
    cond a.active Tripped
    (cond (not a.permit) WaitReset (cond (a.reset && a.start) Normal (cond a.reset WaitStart Ready)))

-- 7. Wait-start: active, Tripped; start permit, Normal; else stays.
abbrev pub rule7 : Asks → EffectState
rule7 a = cond a.active Tripped (cond a.start Normal WaitStart)

-- 8. Normal: active with delay 0, Tripped; active with a delay, Delayed; else stays.
abbrev pub rule8 : Asks → EffectState
rule8 a = cond a.active (cond a.delayed Delayed Tripped) Normal

-- 9. Delayed: if the timer is at most the period (it is due), Tripped; else stays. Causes aren't read.
abbrev pub rule9 : Bool → EffectState
rule9 due = cond due Tripped Delayed

-- rules 4 to 9, by the state before
abbrev pub by_state : Asks → Bool → EffectState → EffectState
by_state a due Tripped = rule4 a
by_state a due WaitReset = rule5 a
by_state a due Ready = rule6 a
by_state a due WaitStart = rule7 a
by_state a due Normal = rule8 a
by_state a due Delayed = rule9 due

-- the first rule that applies decides. 1. Force trip: Tripped. 2. Force normal: Normal. 3. Bad trip: Tripped, whatever the delay.
abbrev pub rule : Asks → Bool → EffectState → EffectState
rule a due p = cond a.trip Tripped (cond a.normal Normal (cond a.bad Tripped (by_state a due p)))

-- ## One effect in one scan

-- what the rules ask of the signals
abbrev pub asks : Signals → Asks
asks s =
    record {
      trip = s.trip;
      normal = s.normal;
      bad = ltb 0 s.bad;
      active = ltb 0 s.active;
      require = s.require;
      permit = s.permit;
      start = s.start;
      reset = s.reset;
      delayed = ltb 0 s.delay;
    }

-- the state after the scan
abbrev pub after : Signals → Slot → EffectState
after s x = rule (asks s) (leb x.timer s.period) x.state

-- the timer in state q, where x was before: in Delayed it starts at the delay and falls by the period; elsewhere it is 0
abbrev pub timer_at : Signals → Slot → EffectState → ℕ
timer_at s x q = cond (same q Delayed) (cond (same x.state Delayed) (x.timer - s.period) s.delay) 0

-- the word that a first-out takes: the active causes of the scan, and the Bad ones besides (perhaps 0)
abbrev pub first_out_word : Signals → ℕ
first_out_word s = bit_or s.active s.bad

-- the first-out in state q, where x was before: 0 in Normal, `first_out_word` in the scan that leaves Normal, and kept otherwise
abbrev pub first_at : Signals → Slot → EffectState → ℕ
first_at s x q = cond (same q Normal) 0 (cond (same x.state Normal) (first_out_word s) x.first_out)

abbrev pub enter : Signals → Slot → EffectState → Slot
enter s x q = record { state = q; timer = timer_at s x q; first_out = first_at s x q }

-- the effect after the scan
abbrev pub next : Signals → Slot → Slot
next s x = enter s x (after s x)

-- the effect's state changes in the scan
abbrev pub moved : Signals → Slot → Bool
moved s x = not (same (after s x) x.state)

-- ## What is reported of an effect

-- the effect's bit of the effect word: 1 in Normal or Delayed after the scan
abbrev pub is_on : EffectState → Bool
is_on Tripped = false
is_on WaitReset = false
is_on Ready = false
is_on WaitStart = false
is_on Normal = true
is_on Delayed = true

-- the effect's bit of the latent word: force normal counts, and active is not 0 or there is a Bad trip
abbrev pub is_latent : Signals → Bool
is_latent s = s.normal && (ltb 0 s.active || ltb 0 s.bad)

-- the effect counts for the exercised scans, forced or not: active is not 0 or there is a Bad trip
abbrev pub is_exercised : Signals → Bool
is_exercised s = ltb 0 s.active || ltb 0 s.bad

-- ## No effect

-- the slot of no effect
abbrev pub no_slot : Slot
no_slot = record { state = Tripped; timer = 0; first_out = 0 }

-- the signals of no effect
abbrev pub no_signals : Signals
no_signals =
    record { active = 0; bad = 0; trip = false; normal = false; require = false; permit = false; start = false; reset = false; delay = 0; period = 0 }
