-- The worked example, computed from the definitions: 01's records 'create at 5' and 'pend on 0 without end', and its 'post 0' with version 2, which the
-- first record's is not.
use Prim.Native.Nat.{ℕ}
use mathlib.Core.Path.{◌≡◌, refl}
use mathlib.Core.Bool.{Bool, true, ◌&&◌}
use mathlib.Core.List.{List, ◌∷◌, ◌++◌}
use lib.Dec.{eqb}
use Rattle.basics.specs.Lists.{zeros}
use Rattle.rules.specs.Log.{read_in, argument_bytes, handed_out, move_to}
use Rattle.rules.specs.declared.Read.TheVariants.{Record, Version}
use Rattle.test_reader.specs.declared.Walked.{Walked}
use Rattle.test_reader.specs.Walk.{walked, is_record, is_version, are_in}

abbrev pub example : List ℕ
example =
    (0x00 ∷ 0x12 ∷ 0x01 ∷ 0x00 ∷ 0x00 ∷ 0x00 ∷ 0x00 ∷ 0x05 ∷ zeros 12)
    ++ (0x00 ∷ 0x12 ∷ 0x01 ∷ 0x22 ∷ 0x00 ∷ 0x00 ∷ 0x00 ∷ 0x00 ∷ 0xff ∷ 0xff ∷ 0xff ∷ 0xff ∷ zeros 8)
    ++ (0x00 ∷ 0x12 ∷ 0x02 ∷ 0x23 ∷ zeros 16)

-- two records, each handed out when it was read, and a fault, which the position stays at
pub two-and-a-fault : walked example
    ≡ record {
      first = Record 0x00 4;
      one = record { len = 16; a = 5; b = 0; c = 0; d = 0 };
      second = Record 0x22 24;
      two = record { len = 16; a = 0; b = 0xffffffff; c = 0; d = 0 };
      third = Version 40;
      at = 40;
    }
unfolding walked read_in handed_out argument_bytes move_to
two-and-a-fault = refl

pub as-expected : {w : Walked} → w ≡ walked example → {first one second two third : Bool}
    → first ≡ is_record w.first 0x00 4 → one ≡ are_in w.one 5 0
    → second ≡ is_record w.second 0x22 24 → two ≡ are_in w.two 0 0xffffffff
    → third ≡ is_version w.third 40
    → (first && one && second && two && third && eqb w.at 40) ≡ true
as-expected e a b c d f = rw (a, b, c, d, f, e, two-and-a-fault)
