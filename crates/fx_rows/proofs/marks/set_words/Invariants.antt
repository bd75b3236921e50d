use Rattle.std.proofs.Common.{◌≡◌, ◌⊎◌, ℕ, ◌*◌, ◌<◌, ◌≤◌}
use Rattle.fx_winding.specs.Bitmaps.{word_bit}
use Rattle.fx_rows.proofs.marks.set_words.Given as goal

abbrev pub invariant-words : goal.invariant-words
invariant-words l = record {
  inside : (k : ℕ) → l.first ≤ k → k ≤ l.last → k < 32 * l.w → word_bit l.line k ≡ 1;
  outside : (k : ℕ) → (k < l.first) ⊎ (l.last < k) → word_bit l.line k ≡ word_bit l.fn.line k;
}
