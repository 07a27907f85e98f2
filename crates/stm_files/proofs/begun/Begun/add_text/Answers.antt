use Rattle.std.proofs.Common.{◌≡◌, ℕ, List, [], ◌∷◌, ◌+◌, ◌++◌, ◌∙◌, sym, ap, take, flat_map}
use Rattle.std.proofs.lemmas.List.{flat_map_more, take_more}
use Rattle.stm_files.specs.declared.begun.Note.{Note}
use Rattle.stm_files.specs.Begun.{begun_line}
use Rattle.stm_files.proofs.begun.Begun.add_text.Goals as goal

pub loop-note-preserved : goal.loop-note-preserved
loop-note-preserved c =
    let k : ℕ = c.args.k in
    let i : ℕ = c.loop-note.note-index in
    let out : List ℕ = c.args.out.now.items in
    let list : List Note = c.deref-note-items.result.now in
    let note : Note = c.note-item.result in
    let more : take (i + 1) list ≡ take i list ++ note ∷ [] = take_more list i note c.loop-note-test.true ∙ ap (λ (n : Note). take i list ++ n ∷ []) (sym c.note-item.is) in
    c.in_ok-add_line.ensures ∙ ap (λ (xs : List ℕ). xs ++ begun_line k note) c.loop-note.invariant
    ∙ flat_map_more (begun_line k) out (take i list) note
    ∙ ap (λ ns. out ++ flat_map (begun_line k) ns) (sym more)
