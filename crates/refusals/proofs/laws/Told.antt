-- What each answer says of the bytes, by its number.
use Rattle.std.specs.Prelude.{ℕ, zero, suc, List, Err, Ok}
use Rattle.refusals.specs.Declared.{StopsShort, UnknownMark, BadField, TooMany, BeforeFirstLine, NoSuchLine, OutOfOrder, AfterEnd, IsGalley}
use Rattle.galley.specs.Whole.{Reading}

-- What a refusal with a number and a place says of the bytes.
abbrev pub Says : ℕ → List ℕ → ℕ → Type 0
Says zero bytes at = ⊥
Says (suc zero) bytes at = StopsShort bytes at
Says (suc (suc zero)) bytes at = UnknownMark bytes at
Says (suc (suc (suc zero))) bytes at = BadField bytes at
Says (suc (suc (suc (suc zero)))) bytes at = TooMany bytes at
Says (suc (suc (suc (suc (suc zero))))) bytes at = BeforeFirstLine bytes at
Says (suc (suc (suc (suc (suc (suc zero)))))) bytes at = NoSuchLine bytes at
Says (suc (suc (suc (suc (suc (suc (suc zero))))))) bytes at = OutOfOrder bytes at
Says (suc (suc (suc (suc (suc (suc (suc (suc zero)))))))) bytes at = AfterEnd bytes at
Says (suc (suc (suc (suc (suc (suc (suc (suc (suc n))))))))) bytes at = ⊥

-- What reading says of them.
unfoldable pub Told : List ℕ → Reading → Type 0
Told bytes (Ok g) = IsGalley bytes g
Told bytes (Err r) = Says r.number bytes r.place
