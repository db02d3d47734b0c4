-- K, tagged words, over any domain below: a word of that domain with a tag that says number or address.
use Rattle.std.specs.Prelude.{Bool, true, false, ◌&&◌, Some, None, Option}
use Rattle.domain.specs.declared.op.Op.{Op}
use Rattle.domain.specs.declared.op.Op.TheVariants.{Add, Sub, Mul, Div, Lt, Eq, And, Or}
use Rattle.domain.specs.Slots.{Slot}
use Rattle.domain.specs.declared.tagged.Tag.{Tag}
use Rattle.domain.specs.declared.tagged.Tag.TheVariants.{Number, Address}
use Rattle.domain.specs.declared.tagged.Tagged.{Tagged}
use Rattle.domain.specs.Meaning.{Meaning}

-- A number and an address add up to an address; two addresses do not add.
abbrev pub tag_of_sum : Tag → Tag → Option Tag
tag_of_sum Number Number = Some Number
tag_of_sum Number Address = Some Address
tag_of_sum Address Number = Some Address
tag_of_sum Address Address = None

-- An address less a number is an address, and less an address a number; a number less an address traps.
abbrev pub tag_of_difference : Tag → Tag → Option Tag
tag_of_difference Number Number = Some Number
tag_of_difference Number Address = None
tag_of_difference Address Number = Some Address
tag_of_difference Address Address = Some Number

-- Mul, div, and, or are for numbers alone.
abbrev pub tag_of_numbers : Tag → Tag → Option Tag
tag_of_numbers Number Number = Some Number
tag_of_numbers Number Address = None
tag_of_numbers Address Number = None
tag_of_numbers Address Address = None

-- Lt and eq compare words of one tag, and give a number.
abbrev pub tag_of_comparison : Tag → Tag → Option Tag
tag_of_comparison Number Number = Some Number
tag_of_comparison Number Address = None
tag_of_comparison Address Number = None
tag_of_comparison Address Address = Some Number

-- the tag of an operation's result; None is a trap
abbrev pub tag_of : Op → Tag → Tag → Option Tag
tag_of Add a b = tag_of_sum a b
tag_of Sub a b = tag_of_difference a b
tag_of Mul a b = tag_of_numbers a b
tag_of Div a b = tag_of_numbers a b
tag_of Lt a b = tag_of_comparison a b
tag_of Eq a b = tag_of_comparison a b
tag_of And a b = tag_of_numbers a b
tag_of Or a b = tag_of_numbers a b

-- a tag on a word; a trap of either is a trap
abbrev pub with_tag : {W : Type 0} → Option Tag → Option W → Option (Tagged W)
with_tag None w = None
with_tag (Some t) None = None
with_tag (Some t) (Some w) = Some (record { tag = t; word = w })

-- only an address has a slot
abbrev pub slot_of : Tag → Option Slot → Option Slot
slot_of Number s = None
slot_of Address s = s

abbrev pub not_sub : Op → Bool
not_sub Add = true
not_sub Sub = false
not_sub Mul = true
not_sub Div = true
not_sub Lt = true
not_sub Eq = true
not_sub And = true
not_sub Or = true

-- A literal is a number; truth is that of the word below; everything may trap;
-- what commutes below commutes here, sub excepted.
abbrev pub tagged : {W : Type 0} → Meaning W → Meaning (Tagged W)
tagged m = record {
  apply = λ o a b. with_tag (tag_of o a.tag b.tag) (m.apply o a.word b.word);
  literal = λ n. record { tag = Number; word = m.literal n };
  truth = λ a. m.truth a.word;
  slot = λ a. slot_of a.tag (m.slot a.word);
  may_trap = λ o. true;
  may_trap_address = true;
  commutes = λ o. m.commutes o && not_sub o;
}
