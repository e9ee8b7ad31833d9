-- P1 to P12 of document 01's corner table, as one table under one statement: computed through the whole scan.
use mathlib.Core.Path.{◌≡◌, refl}
use mathlib.Core.Bool.{true}
use lib.Count.{ones, ones_in}
use Rattle.bits.specs.Lists.{tabulate}
use Rattle.settings.specs.Right.{settings_number, words_number, row_number}
use Rattle.settings.specs.Signals.{signals_of}
use Rattle.block.specs.State.{state_number}
use Rattle.block.specs.Scan.{input_number, after, events, scan_number, scan_of}
use Rattle.worked.specs.Corners.{corners, all_agree}

pub corner_table : all_agree corners ≡ true
unfolding ones ones_in tabulate settings_number words_number row_number signals_of state_number input_number after events scan_number scan_of
corner_table = refl
