-- Tags keep the laws of the domain below.
use Rattle.std.specs.Prelude.{◌≡◌, Bool, true, ◌&&◌}
use Rattle.std.proofs.Common.{ap₂, arith}
use Rattle.domain.specs.declared.op.Op.{Op}
use Rattle.domain.specs.declared.tagged.Tag.{Tag}
use Rattle.domain.specs.Meaning.{Meaning, Lawful}
use Rattle.domain.specs.Tagged.{tagged, tag_of, with_tag, not_sub}

tag_turns : (o : Op) (a b : Tag) → not_sub o ≡ true → tag_of o a b ≡ tag_of o b a
tag_turns o a b h = grind arith

left : (x y : Bool) → (x && y) ≡ true → x ≡ true
left x y h = grind arith

right : (x y : Bool) → (x && y) ≡ true → y ≡ true
right x y h = grind arith

pub tagged_lawful : {W : Type 0} (m : Meaning W) → Lawful m → Lawful (tagged m)
tagged_lawful m l = record {
  trapless = λ o a b h. grind arith;
  trapless_address = λ a h. grind arith;
  commuting = λ o a b h. ap₂ with_tag (tag_turns o a.tag b.tag (right _ _ h)) (l.commuting o a.word b.word (left _ _ h));
}
