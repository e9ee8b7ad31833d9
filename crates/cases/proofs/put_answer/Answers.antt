-- `cases::put_answer` meets its contract: three runs of stores, one after another, are one; the state takes 118 bytes.
use mathlib.Core.List.{[], ◌∷◌, ◌++◌}
use mathlib.Core.Path.{refl}
use Prim.Native.Nat.{◌%◌}
use native.Mathlib.Omega.{arith}
use Rattle.bits.proofs.Numbers.{sets_then}
use Rattle.bits.specs.Layout.{pack}
use Rattle.cases.specs.Answers.{state_bytes, answer_bytes}
use Rattle.cases.proofs.put_answer.Goals as goal

pub returns : goal.returns
unfolding answer_bytes
returns c =
    let a = c.args in
    let l = a.out.now in
    let r = a.scanned in
    let head = pack (1 ∷ 4 ∷ []) (a.number ∷ a.place % 4294967296 ∷ []) in
    let state = c.put_state.ensures in
    let two = sets_then l _ _ 0 5 head (state_bytes r.state) c.put_refusal.ensures state.out_after refl in
    sets_then l _ _ 0 123 (head ++ state_bytes r.state) (pack (2 ∷ 2 ∷ 2 ∷ []) (r.effect ∷ r.latent ∷ r.records % 65536 ∷ [])) two c.put_words.ensures (omega (arith, state.x_len))
