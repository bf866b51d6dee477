-- Names, and the columns that they name.
use Rattle.std.proofs.Common.{ℕ, ◌<◌, ◌≡◌, ◌++◌, Bool, true, false, List, [], ◌∷◌, length, map, take, drop, get_or, refl, sym, ◌∙◌, ap, subst, inr, arith}
use Rattle.std.specs.Prelude.{Option, Some, None, IsSome, if◌then◌else◌}
use Rattle.std.specs.Str.{is_utf8, IsUtf8}
use Rattle.std.proofs.lemmas.Str.{is_utf8-from_IsUtf8, IsUtf8-from_is_utf8}
use Rattle.std.proofs.Math.Seq.{take-append_seam}
use Rattle.std.proofs.lemmas.List.{length-map, get_or-map}
use Rattle.vx_base.specs.declared.errors.VortexError.{VortexError}
use Rattle.vx_base.specs.Refusals.{Refusal, not_utf8, refusal_of, Names, IsMemoryOr, first_fault}
use Rattle.vx_base.proofs.FirstFaults.{first_fault-found}
use Rattle.vx_tree.specs.Tree.{Tree}
use Rattle.vx_text.specs.TextFaults.{view_array_fault}
use Rattle.vx_base.specs.Kinds.{Kind}
use Rattle.vx_tree.specs.Tree.{Valid}
use Rattle.vx_c.specs.declared.table.CodraskBytes.{CodraskBytes}
use Rattle.vx_c.specs.Tables.{utf8_fault, name_fault, names_fault}

abbrev chosen : Bool → ℕ → Option Refusal
chosen b place = if b then None else Some (not_utf8 place)

pub utf8_good : (bs : List ℕ) (place : ℕ) → IsUtf8 bs → utf8_fault bs place ≡ None
utf8_good bs place is = ap (λ b. chosen b place) (is_utf8-from_IsUtf8 bs is)

bad-of : (bs : List ℕ) (place : ℕ) (b : Bool) → is_utf8 bs ≡ b → ¬ (IsUtf8 bs) → chosen b place ≡ Some (not_utf8 place)
bad-of bs place true is bad = absurd (bad (IsUtf8-from_is_utf8 bs is))
bad-of bs place false is bad = refl

pub utf8_bad : (bs : List ℕ) (place : ℕ) → ¬ (IsUtf8 bs) → utf8_fault bs place ≡ Some (not_utf8 place)
utf8_bad bs place bad = bad-of bs place (is_utf8 bs) refl bad

abbrev bytes_in : CodraskBytes → List ℕ
bytes_in b = b.bytes.now

-- what a read past the end gives
abbrev pub no_bytes : CodraskBytes
no_bytes = record { bytes = record { ref_ptr = (0, 0); now = [] } }

-- the first name that is no text
pub names-refused : (buffers : List CodraskBytes) (i : ℕ) (e : VortexError) → first_fault (name_fault (map bytes_in buffers)) i ≡ None
    → i < length buffers → Names (utf8_fault (get_or buffers i no_bytes).bytes.now i) e → IsMemoryOr (names_fault (map bytes_in buffers)) e
names-refused buffers i e before inside named =
    let here : name_fault (map bytes_in buffers) i ≡ refusal_of e =
    ap (λ x. utf8_fault x i) (get_or-map bytes_in buffers i no_bytes [] inside) ∙ named.1 in
    let some : IsSome (name_fault (map bytes_in buffers) i) = subst IsSome (sym here) named.0 in
    let within : i < length (map bytes_in buffers) = omega (arith, inside, length-map buffers bytes_in) in
    inr (first_fault-found (name_fault (map bytes_in buffers)) (length (map bytes_in buffers)) i before some within ∙ here)

drop_front : (cs rest : List Tree) → drop (length cs) (cs ++ rest) ≡ rest
drop_front [] rest = refl
drop_front (c ∷ cs) rest = drop_front cs rest

pub columns_taken : (old cs rest : List Tree) (count : ℕ) → old ≡ cs ++ rest → length cs ≡ count → (take count old ≡ cs) × (drop count old ≡ rest)
columns_taken old cs rest count is len = (
  ap (λ n. take n old) (sym len) ∙ ap (take (length cs)) is ∙ take-append_seam cs rest,
  ap (λ n. drop n old) (sym len) ∙ ap (drop (length cs)) is ∙ drop_front cs rest,
)

pub values_faultless : (vs ws bs cs : List (List ℕ)) (k : Kind) (v : Valid) → vs ≡ ws → bs ≡ cs → view_array_fault vs bs k v ≡ None
    → view_array_fault ws cs k v ≡ None
values_faultless vs ws bs cs k v views buffers none =
    ap (λ x. view_array_fault x cs k v) (sym views) ∙ ap (λ x. view_array_fault vs x k v) (sym buffers) ∙ none
