-- Two lists whose elements belong together: bits to headers, patterns to keys. Assumes nothing.
use Rattle.std.specs.Prelude.{ℕ, Bool, true, ◌&&◌, List, length, ◌==◌}
use Rattle.model.specs.Parser as M
use Rattle.model.specs.Parser.{Bits, exactly, any}
use Rattle.model.specs.Refusal.{are_bits, sized_expr, expr_width}

-- bits for a header of so many
abbrev pub header_fits : ℕ → Bits → Bool
header_fits n bs = length bs == n && are_bits bs

-- a pattern has its key's width, and the key's own widths are right
abbrev pub sized_pattern : List ℕ → M.Expr → M.Pattern → Bool
sized_pattern ns e (exactly bs) = sized_expr ns e && (are_bits bs && length bs == expr_width ns e)
sized_pattern ns e any = true
