-- The entries of a document, one after another.
use Rattle.std.proofs.Common.{◌≡◌, ◌≢◌, ℕ, ◌+◌, ◌<◌, List, [], ◌∷◌, ◌++◌, length, get_or, take, drop, map, Option, Some, None, IsSome, All, Contains, codes, MatchOption, Bor, option_and_then, refl, sym, ap, subst, ◌∙◌, inl, inr, arith, length-take}
use Rattle.std.proofs.lemmas.Bool.{cases_lt}
use Rattle.std.proofs.lemmas.List.{drop_more, get_or_default, get_or-map, length-map, map-append, take-append-drop, take_more}
use Rattle.std.proofs.lemmas.List.Elements.{All-map, All-same}
use Rattle.std.proofs.lemmas.List.Quantifiers.{all_pairs_push}
use Rattle.toml.specs.Data.{Data, string, integer, float, boolean, datetime, array, table, Items, Members, as_array, as_table, get_member}
use Rattle.toml.specs.View.{items_of, items_view, view}
use Rattle.toml.specs.declared.value.Value.{Value}
use Rattle.stm_wire.proofs.Names.{ChipData}
use Rattle.stm_chip.specs.Document.ReadsEntries.{none, more}
use Rattle.stm_chip.specs.Document.{HasEntries, HaveOwnIds, IsChipWith, IsNewId, IsNextChip, IsFlaw, HasFlaw, ReadsEntries, IsDocument, IsTableFaultOf}
use Rattle.stm_chip.specs.declared.fault.TableFault.{TableFault}
use Rattle.stm_chip.specs.declared.fault.TableFault.TheVariants.{Syntax, Missing, Limit, TwiceId, Memory}

pub items_of_same : (xs ys : List Data) → items_of xs ≡ items_of ys → xs ≡ ys
items_of_same [] [] e = refl
items_of_same [] (y ∷ ys) e = cc
items_of_same (x ∷ xs) [] e = cc
items_of_same (x ∷ xs) (y ∷ ys) e =
    let rest : items_of xs ≡ items_of ys = cc in
    let same : xs ≡ ys = items_of_same xs ys rest in
    cc

array_is : (o : Option Data) (items : Items) → option_and_then as_array o ≡ Some items → o ≡ Some (array items)
array_is None items e = cc
array_is (Some (array ds)) items e = cc
array_is (Some (string s)) items e = cc
array_is (Some (integer z)) items e = cc
array_is (Some (float x)) items e = cc
array_is (Some (boolean b)) items e = cc
array_is (Some (datetime d)) items e = cc
array_is (Some (table ms)) items e = cc

abbrev pub IsTable : Data → Type 0
IsTable entry = IsSome (as_table entry)

pub has_entries : (document : Members) (vs : List Value) → option_and_then as_array (get_member (codes "chip") document) ≡ Some (items_view vs)
    → All (λ v. IsTable (view v)) vs → HasEntries document (map view vs)
has_entries document vs e tables =
    record { there = array_is (get_member (codes "chip") document) (items_view vs) e; tables = All-map IsTable view vs tables }

unmapped : (vs : List Value) → All IsTable (map view vs) → All (λ v. IsTable (view v)) vs
unmapped vs tables k d h =
    let within : k < length (map view vs) = omega (arith, length-map vs view) in
    subst IsTable (get_or-map view vs k d (view d) h) (tables k (view d) within)

pub lacks_tables : (document : Members) (vs : List Value) (entries : List Data) → option_and_then as_array (get_member (codes "chip") document) ≡ Some (items_view vs)
    → ¬ All (λ v. IsTable (view v)) vs → ¬ HasEntries document entries
lacks_tables document vs entries e others has =
    let there : get_member (codes "chip") document ≡ Some (array (items_view vs)) = array_is (get_member (codes "chip") document) (items_view vs) e in
    let items : items_of entries ≡ items_of (map view vs) = cc (there, has.there) in
    others (unmapped vs (All-same IsTable (map view vs) entries (sym (items_of_same entries (map view vs) items)) has.tables))

module _ (vs : List Value) (i : ℕ) (v : Value) (h : i < length vs) (here : v ≡ get_or vs i v) (chips : List ChipData) (reads : ReadsEntries (map view (take i vs)) chips) where
  -- one entry more
  pub reads_more : (chip : ChipData) → IsNextChip chips (view v) chip → ReadsEntries (map view (take (i + 1) vs)) (chips ++ chip ∷ [])
  reads_more chip next =
      let P : List Data → Type 0 = λ entries. ReadsEntries entries (chips ++ chip ∷ []) in
      let parts : map view (take (i + 1) vs) ≡ map view (take i vs) ++ view v ∷ [] =
      ap (map view) (take_more vs i v h ∙ ap (λ w. take i vs ++ w ∷ []) (sym here)) ∙ map-append view (take i vs) (v ∷ []) in
      subst P (sym parts) (ReadsEntries.more (view v) chip reads next)

  -- a faulty entry is the first, since those before it were read
  pub flaw_at : (n : ℕ) (fault : TableFault) → n ≡ i + 1 → IsFlaw n chips (view v) fault → HasFlaw (map view vs) fault
  flaw_at n fault n_is flaw =
      let P : ℕ → Type 0 = λ m. IsFlaw m chips (view v) fault in
      let counted : n ≡ length (map view (take i vs)) + 1 = omega (arith, n_is, length-map (take i vs) view, length-take i vs) in
      let parts : vs ≡ take i vs ++ v ∷ drop (i + 1) vs =
      sym (take-append-drop i vs) ∙ ap (λ rest. take i vs ++ rest) (drop_more vs i v h ∙ ap (λ w. w ∷ drop (i + 1) vs) (sym here)) in
      record {
        before = map view (take i vs);
        entry = view v;
        after = map view (drop (i + 1) vs);
        parts = ap (map view) parts ∙ map-append view (take i vs) (v ∷ drop (i + 1) vs);
        chips = chips;
        reads = reads;
        flaw = subst P counted flaw;
      }

-- the fault of a document's entries is that of the text
pub fault_of : (text : List ℕ) (document : Members) (entries : List Data) (fault : TableFault) → IsDocument text document → HasEntries document entries
    → HasFlaw entries fault → IsTableFaultOf text fault
fault_of text document entries Syntax is has flaw = absurd flaw.flaw
fault_of text document entries Memory is has flaw = tt
fault_of text document entries (Missing k) is has flaw =
    inr (record { document = document; is_document = is; entries = entries; has_entries = has; has_flaw = flaw })
fault_of text document entries (Limit k) is has flaw =
    record { document = document; is_document = is; entries = entries; has_entries = has; has_flaw = flaw }
fault_of text document entries (TwiceId k) is has flaw =
    record { document = document; is_document = is; entries = entries; has_entries = has; has_flaw = flaw }

-- chips that were read have ids of their own
pub own_ids : {entries : List Data} {chips : List ChipData} → ReadsEntries entries chips → HaveOwnIds chips
own_ids none = λ i j d h k. absurd (omega arith)
own_ids (more {entries} {chips} entry chip reads next) =
    all_pairs_push (λ earlier later. earlier.id ≢ later.id) chips chip (own_ids reads) next.new_id

one_chip : (chips : List ChipData) (chip other : ChipData) → HaveOwnIds chips → Contains chips chip → Contains chips other → chip.id ≡ other.id → other ≡ chip
one_chip chips chip other own (i, in_i, is_i) (j, in_j, is_j) same =
    let at_j : get_or chips j chip ≡ other = get_or_default chips j chip other in_j ∙ is_j in
    let id_of : ChipData → ℕ = λ c. c.id in
    let ids : id_of (get_or chips i chip) ≡ id_of (get_or chips j chip) = ap id_of is_i ∙ same ∙ ap id_of (sym at_j) in
    elim (cases_lt i j) [
      | inl less ↦ absurd (own i j chip less in_j ids)
      | inr not_less ↦ elim (cases_lt j i) [
        | inl more_than ↦ absurd (own j i chip more_than in_i (sym ids))
        | inr not_more ↦
            let one : i ≡ j = omega arith in
            sym at_j ∙ ap (λ k. get_or chips k chip) (sym one) ∙ is_i
      ]
    ]

-- of two places with one id there is one alone
pub only_chip : (chips : List ChipData) (id : ℕ) (chip : ChipData) → HaveOwnIds chips → chip.id ≡ id → Contains chips chip → IsChipWith chips id chip
only_chip chips id chip own id_is held =
    record {
      id_is = id_is;
      held = held;
      only = λ other there same. one_chip chips chip other own held there (id_is ∙ sym same);
    }

pub found_alone : (chips : List ChipData) (id : ℕ) (found : Option (Bor ChipData)) → HaveOwnIds chips
    → MatchOption found (IsNewId chips id) (λ chip. (chip.now.id ≡ id) × Contains chips chip.now) → MatchOption found (IsNewId chips id) (λ chip. IsChipWith chips id chip.now)
found_alone chips id None own h = h
found_alone chips id (Some chip) own h = only_chip chips id chip.now own h.0 h.1
