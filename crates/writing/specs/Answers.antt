-- Document 01's refusal number, place and length of each case of the writer's enum. A refusal's place is 0 outside the reader, and so
-- is its length. "Refusal numbers" and "Where each form belongs".
use Rattle.std.specs.Prelude.{ℕ}
use Rattle.writing.specs.Written.{Written}
use Rattle.writing.specs.Written as W

abbrev pub written_number : Written → ℕ
written_number (W.Bytes n) = 0
written_number (W.Refused k) = k

abbrev pub written_place : Written → ℕ
written_place (W.Bytes n) = 0
written_place (W.Refused k) = 0

abbrev pub written_length : Written → ℕ
written_length (W.Bytes n) = n
written_length (W.Refused k) = 0
