mod Deals
mod Fair
