-- Positions that are put into a list, those of one list more, behind those that are there.
use Rattle.std.proofs.Common.{◌≡◌, ℕ, ◌+◌, ◌<◌, List, ◌++◌, length, take, get_or, sym, ◌∙◌, ap}
use Rattle.std.specs.List.{range_with_len}
use Rattle.vx_lists.specs.ListViews.Layout.{joined_positions}
use Rattle.vx_lists.proofs.ListViews.PlannedRows.{joined_positions-more}

pub list_put : (offsets sizes xs new : List ℕ) (i at offset size : ℕ) → length sizes ≡ length offsets → i < length offsets → offset ≡ get_or offsets i 0 → size ≡ get_or sizes i 0
    → take at xs ≡ joined_positions (take i offsets) (take i sizes) → take (at + size) new ≡ take at xs ++ range_with_len offset size
    → take (at + size) new ≡ joined_positions (take (i + 1) offsets) (take (i + 1) sizes)
list_put offsets sizes xs new i at offset size same_len inside offset_is size_is so_far put =
    let before : List ℕ = joined_positions (take i offsets) (take i sizes) in
    put ∙ ap (λ ps. ps ++ range_with_len offset size) so_far ∙ ap (λ k. before ++ range_with_len k size) offset_is
    ∙ ap (λ n. before ++ range_with_len (get_or offsets i 0) n) size_is ∙ sym (joined_positions-more offsets sizes i same_len inside)
