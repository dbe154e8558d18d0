-- 01, 'The call log', and No. 14: where a log ends, each fault, which levels it has, and what is printed.
use Prim.Native.Nat.{ℕ}
use mathlib.Core.Path.{◌≡◌, refl, ◌∙◌}
use mathlib.Core.List.{List, [], ◌∷◌, ◌++◌}
use Rattle.basics.specs.Lists.{zeros}
use Rattle.rules.specs.Answer.{answer}
use Rattle.rules.specs.Log.{read_at, arguments_length}
use Rattle.rules.specs.Text.{line_text}
use Rattle.rules.specs.Replay.{replay_lines}
use Rattle.rules.specs.declared.Read.TheVariants.{Record, End, Cut, Version}
use Rattle.rules.proofs.Computed.{computed}
use Rattle.rules_laws.proofs.Runs.{T, S, I, ascii}

-- a record of version v with this call number, and one of 7f, no call's number
abbrev pub of : ℕ → ℕ → List ℕ
of v number = 0x00 ∷ 0x12 ∷ v ∷ number ∷ zeros arguments_length

abbrev pub unknown : List ℕ
unknown = of 1 0x7f

-- a record of version v by which a task is made at priority p
abbrev pub creates : ℕ → ℕ → List ℕ
creates v p = 0x00 ∷ 0x12 ∷ v ∷ 0x00 ∷ zeros 3 ++ (p ∷ zeros 12)

-- tasks made at the top priority and above it, with 16 levels and with 32
abbrev pub to-15 : List ℕ
to-15 = creates 1 15 ++ creates 1 16

abbrev pub to-31 : List ℕ
to-31 = creates 2 16 ++ creates 2 31 ++ creates 2 32

pub record Logs : Type 0 where
  -- "An empty log prints `end 0`."
  pub nothing : replay_lines [] ≡ ascii "end 0" ∷ []
  -- "exactly 1 byte left, `cut`", whatever it is
  pub one_byte : replay_lines (0x13 ∷ []) ≡ ascii "cut 0" ∷ []
  -- "length not 18, `length`", before what follows is looked at; "fewer than 18 after it, `cut`"
  pub wrong-length : replay_lines (0x00 ∷ 0x13 ∷ []) ≡ ascii "length 0" ∷ []
  pub length-alone : replay_lines (0x00 ∷ 0x12 ∷ []) ≡ ascii "cut 0" ∷ []
  -- No. 14: "neither 1 nor 2, is the fault `version`", of a whole record; one byte short of it is cut
  pub short : replay_lines (0x00 ∷ 0x12 ∷ 0x03 ∷ zeros 16) ≡ ascii "cut 0" ∷ []
  pub wrong-version : replay_lines (0x00 ∷ 0x12 ∷ 0x03 ∷ zeros 17) ≡ ascii "version 0" ∷ []
  pub no-version : replay_lines (0x00 ∷ 0x12 ∷ 0x00 ∷ zeros 17) ≡ ascii "version 0" ∷ []
  -- "a record whose version differs from the first record's": also where its own would be good; where it is cut or its length wrong, that comes first
  pub then-1 : replay_lines (of 2 0x7f ++ of 1 0x7f) ≡ ascii "1 1 0 0 T0" ∷ ascii "version 20" ∷ []
  pub then-2 : replay_lines (of 1 0x7f ++ of 2 0x7f) ≡ ascii "1 1 0 0 T0" ∷ ascii "version 20" ∷ []
  pub then-cut : replay_lines (of 1 0x7f ++ (0x00 ∷ 0x12 ∷ 0x02 ∷ zeros 16)) ≡ ascii "1 1 0 0 T0" ∷ ascii "cut 20" ∷ []
  pub then-length : replay_lines (of 1 0x7f ++ (0x00 ∷ 0x13 ∷ 0x02 ∷ zeros 17)) ≡ ascii "1 1 0 0 T0" ∷ ascii "length 20" ∷ []
  -- at any position "the first record decides": behind one of version 2, and behind one of version 3
  pub behind-2 : read_at (of 2 0x7f ++ of 1 0x7f) 20 ≡ Version 20
  pub behind-2-too : read_at (of 2 0x7f ++ of 2 0x7f) 20 ≡ Record 0x7f 24
  pub behind-3 : read_at (of 3 0x7f ++ of 3 0x7f) 20 ≡ Version 20
  pub behind-3-too : read_at (of 3 0x7f ++ of 1 0x7f) 20 ≡ Version 20
  -- whatever stands around its version: a first record of wrong length, and one that is cut
  pub behind-length : read_at (0x00 ∷ 0x13 ∷ 0x02 ∷ (zeros 17 ++ of 2 0x7f)) 20 ≡ Record 0x7f 24
  pub behind-length-too : read_at (0x00 ∷ 0x13 ∷ 0x02 ∷ (zeros 17 ++ of 1 0x7f)) 20 ≡ Version 20
  pub cut-2 : replay_lines (0x00 ∷ 0x12 ∷ 0x02 ∷ zeros 16) ≡ ascii "cut 0" ∷ []
  -- "Log version 2 has the same layout and means 32 levels; a version 1 log replays with 16 as today." "With 32, priorities run to 31."
  pub with-16 : replay_lines to-15 ≡ ascii "1 0 0 1 T1" ∷ ascii "2 4 0 0 T1" ∷ ascii "end 2" ∷ []
  pub with-32 : replay_lines to-31 ≡ ascii "1 0 0 1 T1" ∷ ascii "2 0 0 2 T2" ∷ ascii "3 4 0 0 T2" ∷ ascii "end 3" ∷ []
  -- "A fault's last line is as `cut 40`", and the calls before it are answered: "unknown call number"
  pub cut-40 : replay_lines (unknown ++ unknown ++ (0x00 ∷ [])) ≡ ascii "1 1 0 0 T0" ∷ ascii "2 1 0 0 T0" ∷ ascii "cut 40" ∷ []
  -- "None left is the end, a position past the log `cut`": a record's call number and where its arguments start
  pub at-start : read_at unknown 0 ≡ Record 0x7f 4
  pub at-end : read_at unknown 20 ≡ End
  pub past_end : read_at unknown 21 ≡ Cut 21
  -- "Threads print as T or S with a number, or I; numbers in plain decimal."
  pub of-task : line_text 10 (answer 0 2 0) (T 31) ≡ ascii "10 0 2 0 T31"
  pub of-swi : line_text 99 (answer 0 0 4294967295) (S 9) ≡ ascii "99 0 0 4294967295 S9"
  pub of-interrupt : line_text 100 (answer 10 1 65535) I ≡ ascii "100 10 1 65535 I"

pub logs : Logs
unfolding computed ascii
logs =
    record {
      nothing = refl;
      one_byte = refl;
      wrong-length = refl;
      length-alone = refl;
      short = refl;
      wrong-version = refl;
      no-version = refl;
      then-1 = refl;
      then-2 = refl;
      then-cut = refl;
      then-length = refl;
      behind-2 = refl;
      behind-2-too = refl;
      behind-3 = refl;
      behind-3-too = refl;
      behind-length = refl;
      behind-length-too = refl;
      cut-2 = refl;
      with-16 = refl;
      with-32 = refl;
      cut-40 = refl;
      at-start = refl;
      at-end = refl;
      past_end = refl;
      of-task = refl;
      of-swi = refl;
      of-interrupt = refl;
    }
