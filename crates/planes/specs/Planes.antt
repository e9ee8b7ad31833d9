-- The states of all effects as six words, one bit an effect, and the rules on them. No entry point's contract cites this page.
use Rattle.std.specs.Prelude.{ℕ, ◌+◌, ◌-◌, ◌*◌, ◌/◌, ◌%◌, ◌^◌, cond}
use Rattle.std.specs.Int.Bits.{bit_and, bit_or}
use Rattle.bits.specs.Words.{bit_of, word_of}
use Rattle.rules.specs.declared.EffectState.{EffectState}
use Rattle.rules.specs.declared.EffectState.TheVariants.{Tripped, WaitReset, Ready, WaitStart, Normal, Delayed}
use Rattle.rules.specs.Signals.{Asks}
use Rattle.rules.specs.Rules.{same}
use Rattle.planes.specs.declared.Asked.{Asked}
use Rattle.planes.specs.declared.Planes.{Planes}

-- the six words of the states f 0, f 1, .. of n effects
unfoldable pub planes_of : ℕ → (ℕ → EffectState) → Planes
planes_of n f =
    record {
      tripped = word_of (λ i. same (f i) Tripped) n;
      wait_reset = word_of (λ i. same (f i) WaitReset) n;
      ready = word_of (λ i. same (f i) Ready) n;
      wait_start = word_of (λ i. same (f i) WaitStart) n;
      normal = word_of (λ i. same (f i) Normal) n;
      delayed = word_of (λ i. same (f i) Delayed) n;
    }

-- what the rules ask of n effects, as words
unfoldable pub asked_of : ℕ → (ℕ → Asks) → Asked
asked_of n a =
    record {
      force_trip = word_of (λ i. (a i).trip) n;
      force_normal = word_of (λ i. (a i).normal) n;
      bad_trip = word_of (λ i. (a i).bad) n;
      active = word_of (λ i. (a i).active) n;
      require_reset = word_of (λ i. (a i).require) n;
      reset_permit = word_of (λ i. (a i).permit) n;
      start_permit = word_of (λ i. (a i).start) n;
      reset = word_of (λ i. (a i).reset) n;
      with_delay = word_of (λ i. (a i).delayed) n;
    }

-- ## The rules on a word, or on a bit: the same formulas over any and, or and less (the first without the second)

module _ {B : Type 0} (and or less : B → B → B) where
  -- one of the first three rules applies
  abbrev pub stopped : (trip normal bad : B) → B
  stopped t n b = or t (or n b)

  abbrev pub to_tripped : (trip normal bad active delayed due : B) → (T W R S N D : B) → B
  to_tripped t n b a de due T W R S N D =
      or t (or (less b n) (less (or (and D due) (and a (or T (or W (or R (or S (less N de))))))) (stopped t n b)))

  abbrev pub to_wait : (trip normal bad active require permit : B) → (T W R : B) → B
  to_wait t n b a rq pm T W R = less (or W (or R (and T rq))) (or (stopped t n b) (or a pm))

  abbrev pub to_ready : (trip normal bad active require permit reset : B) → (T W R : B) → B
  to_ready t n b a rq pm rs T W R = less (and pm (or W (or (and T rq) (less R rs)))) (or (stopped t n b) a)

  -- the effect needs only the start permit to reach Normal
  abbrev pub on_way : (require permit reset : B) → (T R S : B) → B
  on_way rq pm rs T R S = or S (or (less T rq) (and R (and pm rs)))

  abbrev pub to_start : (trip normal bad active require permit start reset : B) → (T R S : B) → B
  to_start t n b a rq pm st rs T R S = less (on_way rq pm rs T R S) (or (stopped t n b) (or a st))

  abbrev pub to_normal : (trip normal bad active require permit start reset : B) → (T R S N : B) → B
  to_normal t n b a rq pm st rs T R S N = or (less n t) (less (or N (and st (on_way rq pm rs T R S))) (or (stopped t n b) a))

  abbrev pub to_delayed : (trip normal bad active delayed due : B) → (N D : B) → B
  to_delayed t n b a de due N D = less (or (less D due) (and N (and a de))) (stopped t n b)

  -- one of the first six is set where its like among the other six is not
  abbrev pub differ : (T W R S N D T' W' R' S' N' D' : B) → B
  differ T W R S N D T' W' R' S' N' D' = or (less T T') (or (less W W') (or (less R R') (or (less S S') (or (less N N') (less D D')))))

-- the code's `v & !w`
abbrev pub less16 : ℕ → ℕ → ℕ
less16 v w = bit_and v (65535 - w)

-- the states after a scan, by words
unfoldable pub planes_after : Asked → ℕ → Planes → Planes
planes_after w due p =
    record {
      tripped = to_tripped bit_and bit_or less16 w.force_trip w.force_normal w.bad_trip w.active w.with_delay due p.tripped p.wait_reset p.ready p.wait_start p.normal p.delayed;
      wait_reset = to_wait bit_and bit_or less16 w.force_trip w.force_normal w.bad_trip w.active w.require_reset w.reset_permit p.tripped p.wait_reset p.ready;
      ready = to_ready bit_and bit_or less16 w.force_trip w.force_normal w.bad_trip w.active w.require_reset w.reset_permit w.reset p.tripped p.wait_reset p.ready;
      wait_start = to_start bit_and bit_or less16 w.force_trip w.force_normal w.bad_trip w.active w.require_reset w.reset_permit w.start_permit w.reset p.tripped p.ready p.wait_start;
      normal = to_normal bit_and bit_or less16 w.force_trip w.force_normal w.bad_trip w.active w.require_reset w.reset_permit w.start_permit w.reset p.tripped p.ready p.wait_start p.normal;
      delayed = to_delayed bit_and bit_or less16 w.force_trip w.force_normal w.bad_trip w.active w.with_delay due p.normal p.delayed;
    }

-- the effects whose state differs
unfoldable pub changed_of : Planes → Planes → ℕ
changed_of p q =
    differ bit_and bit_or less16 p.tripped p.wait_reset p.ready p.wait_start p.normal p.delayed
    q.tripped q.wait_reset q.ready q.wait_start q.normal q.delayed

-- ## A state, from its bit in each word

abbrev pub one_of : ℕ → ℕ → ℕ
one_of w i = w / 2 ^ i % 2

-- the code of effect i's state, bit by bit: the lowest is set in Wait-reset, Wait-start and Delayed, the next in Ready and Wait-start, the
-- highest in Normal and Delayed
unfoldable pub code_at : Planes → ℕ → ℕ
code_at p i =
    one_of (bit_or (bit_or p.wait_reset p.wait_start) p.delayed) i + 2 * one_of (bit_or p.ready p.wait_start) i
    + 4 * one_of (bit_or p.normal p.delayed) i

-- effect i's state
unfoldable pub state_at : Planes → ℕ → EffectState
state_at p i =
    cond (bit_of p.tripped i) Tripped (cond (bit_of p.wait_reset i) WaitReset (cond (bit_of p.ready i) Ready
    (cond (bit_of p.wait_start i) WaitStart (cond (bit_of p.normal i) Normal Delayed))))
