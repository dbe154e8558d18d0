-- A log goes part by part through the turns of a replay: the texts so far, and what is written for the rest, are the text of the whole log.
use Prim.Native.Nat.{ℕ, ◌+◌, ◌-◌, ◌/◌, ◌^◌, ◌≤◌, ◌<◌}
use mathlib.Core.Path.{◌≡◌, sym, ap, ◌∙◌}
use mathlib.Core.Logic.{⊎_elim}
use mathlib.Core.Bool.{Bool, true, false, not, cond as if}
use mathlib.Core.List.{List, [], ◌∷◌, ◌++◌, append-nil, append_assoc, flatten}
use native.Mathlib.Nat.{sub-zero, zero-add}
use native.Mathlib.Omega.{arith}
use lib.Dec.{eqb}
use lib.ListN.{length, take, drop, length-take, length-drop, take-append-drop}
use lib.Seq.{sets-eq, length-sets, length-take-le, take_at, drop_at, take_all}
use borrow.Author.Tests.{eq-eqb, ne_eqb}
use Rattle.basics.specs.Lists.{bit}
use Rattle.basics.proofs.Laws.{same?, lt-or-le, no_length}
use Rattle.rules.specs.Fresh.{fresh}
use Rattle.rules.specs.Replay.{replay_text}
use Rattle.rules.specs.declared.Tables.{Tables}
use Rattle.text.specs.Put.{fitting, PutIn}
use Rattle.text.proofs.Puts.{put-none, put-more}
use Rattle.desk_parts.specs.Part.{ReplayState, begun, turn, start, written}
use Rattle.desk_parts.proofs.Bounds.{Bounded, part-bounded}
use Rattle.desk_parts.proofs.Whole.{parts-are-whole}
use Rattle.desk.specs.declared.Progress.{Progress}
use Rattle.desk.specs.Done.{replay_state, progress_of, behind, TurnLeaves}
use Rattle.desk_whole.specs.Printed.{Printed}

-- what was put behind the first `at` bytes: they stay, and so many more stand behind them
module _ (xs : List ℕ) (at : ℕ) (t ys : List ℕ) (more : ℕ) (p : PutIn 2560 xs at t ys (at + more)) (size : length xs ≡ 2560) (room : at ≤ 2560) where
  more-is : more ≡ length (take (2560 - at) t)
  unfolding fitting
  more-is = omega (arith, p.end)

  -- as much as has room
  taken : take (2560 - at) t ≡ take more t
  taken =
      ⊎_elim
      (λ (h : length t < 2560 - at). take_all (2560 - at) t (omega arith) ∙ sym (take_all more t (omega (arith, more-is, length-take (2560 - at) t))))
      (λ (h : 2560 - at ≤ length t). let e : 2560 - at ≡ more = omega (arith, more-is, length-take (2560 - at) t) in rw e)
      (lt-or-le (length t) (2560 - at))

  pub more-few : more ≤ length t
  more-few = omega (arith, more-is, length-take (2560 - at) t)

  stand : ys ≡ (take at xs ++ take more t) ++ drop (at + more) xs
  unfolding fitting
  stand =
      let l : length (take more t) ≡ more = length-take-le more t more-few in
      p.bytes ∙ rw taken (rw l at (sets-eq (take more t) xs at (omega (arith, more-is, length-take (2560 - at) t))))

  first : length (take at xs) ≡ at
  first = length-take-le at xs (omega arith)

  pub stay : take at ys ≡ take at xs
  stay = rw (stand, append_assoc) (take_at (take at xs) (take more t ++ drop (at + more) xs) at first)

  pub came-is : take more (drop at ys) ≡ take more t
  came-is =
      rw (stand, append_assoc, drop_at (take at xs) (take more t ++ drop (at + more) xs) at first)
      (take_at (take more t) (drop (at + more) xs) more (length-take-le more t more-few))

-- ---- log w, and a buffer that held xs
bit-most : (b : Bool) → bit b ≤ 1
bit-most true = omega arith
bit-most false = omega arith

module _ (w xs : List ℕ) where
  -- the texts so far end at `at` in buffer ys; they, and what is written for the rest, are all
  pub record Sofar (t : Tables) (ps ts : List ℕ) (p : Progress) (rest : List ℕ) (at : ℕ) (ys : List ℕ) : Type 0 where
    pub text : List ℕ
    pub put : PutIn (length xs) xs 0 text ys at
    pub size : length ps ≡ 2560
    pub few : p.held < 20
    pub whole : (cs : List (List ℕ)) → flatten cs ≡ rest → replay_text w ≡ text ++ if p.ended [] (written cs (replay_state t ps ts p))

  -- nothing is read yet
  pub sofar-none : {t : Tables} (ps ts : List ℕ) {p : Progress} → t ≡ fresh → length ps ≡ 2560 → p ≡ progress_of start → length w < 2 ^ 64
      → Sofar t ps ts p w 0 xs
  sofar-none ps ts e size begun small =
      rw (e, begun)
      (record {
        text = [];
        put = put-none (length xs) xs 0;
        size = size;
        few = omega arith;
        whole = λ cs f. let all : length (flatten cs) < 2 ^ 64 = rw f small in sym (parts-are-whole cs all ∙ rw f);
      })

  module _ {t : Tables} {ps ts : List ℕ} {p : Progress} {rest : List ℕ} {at : ℕ} {ys : List ℕ} (v : Sofar t ps ts p rest at ys) where
    -- the buffer is as long as it was
    pub sofar-size : length ys ≡ length xs
    sofar-size = ap length v.put.bytes ∙ length-sets xs 0 (fitting (length xs) 0 v.text)

    -- one part more
    module _ (on : p.ended ≡ false) (more : ℕ) {qs : List ℕ} (n : PutIn 2560 ps p.held rest qs (p.held + more)) where
      room : p.held ≤ 2560
      room = omega (arith, v.few)

      -- what the turn leaves
      abbrev next : ReplayState
      next = turn (eqb more 0) (take more rest) (replay_state t ps ts p)

      next-is : turn (eqb more 0) (behind qs p more) (replay_state t qs ts p) ≡ next
      next-is = rw (stay ps p.held rest qs more n v.size room, came-is ps p.held rest qs more n v.size room)

      bounded : Bounded (eqb more 0) (length (take p.held ps ++ take more rest) / 20) next
      bounded =
          let s : List ℕ = take p.held ps ++ take more rest in
          part-bounded (eqb more 0) s p.offset p.count (begun p.count s t)

      pub some : more ≤ length rest
      some = more-few ps p.held rest qs more n v.size room

      -- a part where something follows
      part-whole : (more ≡ 0 → ⊥) → (cs : List (List ℕ)) → flatten cs ≡ drop more rest
          → replay_text w ≡ (v.text ++ next.text) ++ if next.ended [] (written cs next)
      unfolding written flatten
      part-whole h cs e =
          let last : eqb more 0 ≡ false = ne_eqb more 0 h in
          let bytes : take more rest ++ flatten cs ≡ rest = rw e (take-append-drop more rest) in
          v.whole (take more rest ∷ cs) bytes ∙ rw (on, last) (simp append_assoc)

      -- the part that nothing follows
      nothing : more ≡ 0 → rest ≡ []
      nothing e =
          no_length rest (omega (arith, more-is ps p.held rest qs more n v.size room, length-take (2560 - p.held) rest, v.few))

      last-whole : more ≡ 0 → (cs : List (List ℕ))
          → replay_text w ≡ (v.text ++ next.text) ++ if next.ended [] (written cs next)
      unfolding written flatten
      last-whole e cs =
          let last : eqb more 0 ≡ true = eq-eqb more 0 e in
          let ends : next.ended ≡ true = bounded.ends last in
          v.whole [] (sym (nothing e)) ∙ rw (on, ends, last, e) (sym (append-nil (v.text ++ (turn true [] (replay_state t ps ts p)).text)))

      module _ {u : Tables} {qs' ts' : List ℕ} {q : Progress}
          (g : TurnLeaves (turn (eqb more 0) (behind qs p more) (replay_state t qs ts p)) u qs qs' ts ts' q) where
        turned : TurnLeaves next u qs qs' ts ts' q
        turned = rw next-is at g

        few-wait : q.held < 20
        few-wait = omega (arith, ap (λ (r : Progress). r.held) turned.progress, bounded.rest)

        text-is : take q.len ts' ≡ next.text
        text-is = ap (λ (l : ReplayState). l.text) turned.left

        -- less is left
        pub sofar-less : {left : List ℕ} → left ≡ drop more rest → length left + bit (not q.ended) < length rest + bit (not p.ended)
        sofar-less l =
            ⊎_elim
            (λ (e : more ≡ 0).
            let ends : q.ended ≡ true =
            ap (λ (r : Progress). r.ended) turned.progress ∙ bounded.ends (eq-eqb more 0 e) in
            rw (l, on, ends) (omega (arith, length-drop more rest)))
            (λ (h : more ≡ 0 → ⊥). rw (l, on) (omega (arith, some, length-drop more rest, bit-most (not q.ended))))
            (same? more 0)

        module _ {zs : List ℕ} {at' : ℕ} (m : PutIn (length ys) ys at (take q.len ts') zs at') where
          put_next : PutIn (length xs) xs 0 (v.text ++ next.text) zs at'
          put_next =
              put-more v.put (rw (sofar-size, text-is) at m)

          pub sofar-next : {left : List ℕ} → left ≡ drop more rest → Sofar u qs' ts' q left at' zs
          sofar-next l =
              record {
                text = v.text ++ next.text;
                put = put_next;
                size =
                    ap length turned.part ∙ length-sets qs 0 next.rest ∙ ap length n.bytes
                    ∙ length-sets ps p.held (fitting 2560 p.held rest) ∙ v.size;
                few = few-wait;
                whole = λ cs f.
                    let e : flatten cs ≡ drop more rest = f ∙ l in
                    rw (turned.left, ap (λ (r : Progress). r.ended) turned.progress)
                    (⊎_elim (λ (z : more ≡ 0). last-whole z cs) (λ h. part-whole h cs e) (same? more 0));
              }

    -- the replay has ended
    pub sofar-all : p.ended ≡ true → Printed w xs ys at
    unfolding fitting flatten
    sofar-all over =
        let all : replay_text w ≡ v.text = v.whole (rest ∷ []) (append-nil rest) ∙ rw over (append-nil v.text) in
        let z : length xs - 0 ≡ length xs = sub-zero (length xs) in
        record {
          bytes = v.put.bytes ∙ rw (z, all);
          count = v.put.end ∙ rw (z, zero-add, ← all) (length-take (length xs) (replay_text w));
        }
