-- What the settings give to the words of effects: the array, and the plan. No entry point's contract cites this page.
use Rattle.std.specs.Prelude.{ℕ, zero, suc, ◌≡◌, true, List, ltb, get_or, length}
use Rattle.std.specs.Int.Bits.{bit_or}
use Rattle.std.proofs.lemmas.List.Edits.{sets}
use Rattle.bits.specs.Lists.{tabulate}
use Rattle.bits.specs.Words.{word_of}
use Rattle.cells.specs.declared.Plan.{Plan}
use Rattle.cells.specs.Array.{array_length, associations_at, delays_at, associations_in, delays_in}
use Rattle.settings.specs.declared.Settings.{Settings}
use Rattle.settings.specs.Signals.{no_effect}

abbrev pub association_at : Settings → ℕ → ℕ
association_at st i = (get_or st.effects i no_effect).association

abbrev pub delay_at : Settings → ℕ → ℕ
delay_at st i = (get_or st.effects i no_effect).delay

-- the association words of all slots
abbrev pub associations_of : Settings → List ℕ
associations_of st = tabulate (association_at st) 16

abbrev pub delays_of : Settings → List ℕ
delays_of st = tabulate (delay_at st) 16

-- the array with the association words and the delays of all slots
unfoldable pub wired_into : Settings → (array : List ℕ) → List ℕ
wired_into st array = sets (sets array associations_at (associations_of st)) delays_at (delays_of st)

-- the bits that are set in any of n words
unfoldable pub union_to : (ℕ → ℕ) → ℕ → ℕ
union_to f zero = 0
union_to f (suc n) = bit_or (union_to f n) (f n)

-- what stays the same from row to row
unfoldable pub plan_of : Settings → Plan
plan_of st =
    record {
      count = st.count;
      period = st.period;
      options = st.options;
      all = word_of (λ i. true) st.count;
      with_delay = word_of (λ i. ltb 0 (delay_at st i)) st.count;
      watched = union_to (association_at st) st.count;
    }

-- plan and array are those of the settings
pub record Wired (st : Settings) (plan : Plan) (array : List ℕ) : Type 0 where
  pub plan-is : plan ≡ plan_of st
  pub associations_are : associations_in array ≡ associations_of st
  pub delays_are : delays_in array ≡ delays_of st
  pub long : length array ≡ array_length
