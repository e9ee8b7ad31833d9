-- What is known of a recording that the reader accepts, and of bytes that it refuses.
use mathlib.Core.Path.{◌≡◌, ap, sym}
use mathlib.Core.List.{List}
use Prim.Native.Nat.{ℕ}
use Rattle.std.proofs.Common.{Err}
use Rattle.settings.specs.declared.Settings.{Settings}
use Rattle.settings.specs.declared.numbers.Refused.{Refused as Refusal}
use Rattle.settings.specs.Refusals.{number_of}
use Rattle.recording.specs.declared.Recording.{Recording}
use Rattle.recording.specs.Answer.{Reading, as_reading, Accepted, Refused}
use Rattle.recording.specs.Opened.{IsRead}
use Rattle.recording.specs.Reader.{reading}

module _ (s : List ℕ) where
  module _ (file : Recording) (is : IsRead file s) where
    pub answer_is : (reading s).answer ≡ Accepted file.rows file.first file.width
    answer_is = sym (ap (λ (r : Reading). r.answer) is)

    pub settings_are : file.settings ≡ (reading s).settings
    settings_are = ap (λ (r : Reading). r.settings) is

  pub refusal_is : (e : Refusal) → as_reading (Err e) ≡ reading s → (reading s).answer ≡ Refused (number_of e.refusal) e.place
  refusal_is e is = sym (ap (λ (r : Reading). r.answer) is)
