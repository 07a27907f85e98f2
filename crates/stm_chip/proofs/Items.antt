-- Reading the items of an array one by one.
use Rattle.std.proofs.Common.{◌≡◌, ◌∙◌, ℕ, ◌+◌, ◌<◌, ◌≤◌, List, [], ◌∷◌, ◌++◌, Option, Some, None, length, drop, refl, sym, ap, slice_index_or, rules}
use Rattle.std.proofs.lemmas.List.{append_assoc, drop_all}
use Rattle.toml.specs.Data.{Data, Items, item, no_items}
use Rattle.toml.specs.View.{items_view, view}
use Rattle.toml.proofs.Views.{items_view-drop}
use Rattle.toml.specs.declared.value.Value.{Value}
use Rattle.stm_chip.specs.Items.{each_of, with_first}

-- what some items say, and then what is said by those that are left
abbrev pub joined : {T : Type 0} → List T → Option (List T) → Option (List T)
joined xs None = None
joined xs (Some ys) = Some (xs ++ ys)

one_more : {T : Type 0} (xs : List T) (x : T) (o : Option (List T)) → joined (xs ++ x ∷ []) o ≡ joined xs (with_first (Some x) o)
one_more xs x None = refl
one_more xs x (Some ys) = ap (λ l. Some l) (search (rules, append_assoc))

none_more : {T : Type 0} (xs : List T) (o : Option (List T)) → joined xs (with_first None o) ≡ None
none_more xs None = refl
none_more xs (Some ys) = refl

at_item : {T : Type 0} (says : Data → Option T) (d : Data) (ds : Items) → each_of says (item d ds) ≡ with_first (says d) (each_of says ds)
unfolding each_of
at_item says d ds = refl

items_at : {T : Type 0} (says : Data → Option T) (vs : List Value) (i : ℕ) (v : Value) → i < length vs
    → each_of says (items_view (drop i vs)) ≡ with_first (says (view (slice_index_or vs i v))) (each_of says (items_view (drop (i + 1) vs)))
items_at says vs i v h = ap (each_of says) (items_view-drop vs i v h) ∙ at_item says _ _

pub keeps : {T : Type 0} (says : Data → Option T) (vs : List Value) (i : ℕ) (v : Value) (x : T) (xs : List T) → i < length vs
    → says (view (slice_index_or vs i v)) ≡ Some x
    → joined (xs ++ x ∷ []) (each_of says (items_view (drop (i + 1) vs))) ≡ joined xs (each_of says (items_view (drop i vs)))
keeps says vs i v x xs h e =
    one_more xs x _ ∙ sym (ap (joined xs) (items_at says vs i v h ∙ ap (λ o. with_first o (each_of says (items_view (drop (i + 1) vs)))) e))

pub stops : {T : Type 0} (says : Data → Option T) (vs : List Value) (i : ℕ) (v : Value) (xs : List T) → i < length vs
    → says (view (slice_index_or vs i v)) ≡ None → joined xs (each_of says (items_view (drop i vs))) ≡ None
stops says vs i v xs h e =
    ap (joined xs) (items_at says vs i v h ∙ ap (λ o. with_first o (each_of says (items_view (drop (i + 1) vs)))) e)
    ∙ none_more xs (each_of says (items_view (drop (i + 1) vs)))

none_left : {T : Type 0} (says : Data → Option T) → each_of says no_items ≡ Some []
unfolding each_of
none_left says = refl

pub ends : {T : Type 0} (says : Data → Option T) (vs : List Value) (i : ℕ) (xs : List T) → length vs ≤ i
    → joined xs (each_of says (items_view (drop i vs))) ≡ Some xs
ends says vs i xs h =
    ap (λ l. joined xs (each_of says (items_view l))) (drop_all i vs h) ∙ ap (joined xs) (none_left says) ∙ ap (λ l. Some l) (search rules)
