-- `findings::has_only` meets its contract: a word has no bit at 16 or above.
use mathlib.Core.Path.{◌≡◌, refl, ap, sym, ◌∙◌}
use mathlib.Core.Bool.{Bool, true, false}
use Prim.Native.Nat.{ℕ, ◌^◌, ◌<◌, ◌≤◌, min}
use native.Mathlib.Omega.{arith}
use lib.Dec.{ltb}
use lib.Pow.{pow_mono}
use borrow.Author.Tests.{lt-ltb, ltb-true, ltb-false}
use Rattle.findings.proofs.has_only.Goals as goal

capped : (w n : ℕ) → w < 2 ^ 16 → ltb w (2 ^ min n 16) ≡ ltb w (2 ^ n)
capped w n few = go (ltb n 16) refl
  where
    go : (b : Bool) → ltb n 16 ≡ b → ltb w (2 ^ min n 16) ≡ ltb w (2 ^ n)
    go true e = let least : min n 16 ≡ n = omega (arith, ltb-true n 16 e) in ap (λ (k : ℕ). ltb w (2 ^ k)) least
    go false e =
        let h : 16 ≤ n = omega (arith, ltb-false n 16 e) in
        let least : min n 16 ≡ 16 = omega (arith, h) in
        let f : w < 2 ^ n = omega (arith, few, pow_mono h) in
        ap (λ (k : ℕ). ltb w (2 ^ k)) least ∙ lt-ltb _ _ few ∙ sym (lt-ltb _ _ f)

pub returns : goal.returns
returns c = c.within.ensures ∙ ap (λ (k : ℕ). ltb c.args.word (2 ^ k)) c.min.ensures ∙ capped c.args.word c.args.n (omega arith)
